-- The lines of a run, from its bytes.
use Rattle.std.specs.Prelude.{ℕ, ◌+◌, ◌*◌, ◌/◌, List, [], ◌∷◌, ◌++◌, length, flat_map, take, drop, Option}
use Rattle.std.specs.List.{range_with_len}
use Rattle.omf_image.specs.declared.run.Run.{Run}
use Rattle.omf_cmd.specs.Relocated.{place_text, run_lines}
use Rattle.omf_cmd.specs.Inner.Names.{byte_text}

-- the place, each byte, and a line feed
abbrev pub line_text : (ℕ → List ℕ) → ℕ → List ℕ → List ℕ
line_text place offset bytes = place offset ++ flat_map byte_text bytes ++ 10 ∷ []

-- lines of 16 bytes; the last line has what is left
abbrev pub lines_of : (ℕ → List ℕ) → ℕ → List ℕ → List ℕ
lines_of place first bytes = flat_map (λ k. line_text place (first + 16 * k) (take 16 (drop (16 * k) bytes))) (range_with_len 0 ((length bytes + 15) / 16))

-- the runs of the segments 1 to `count`
abbrev pub segments_text : ℕ → (ℕ → ℕ → Option ℕ) → (ℕ → List Run) → List ℕ
segments_text count byte runs = flat_map (λ segment. flat_map (run_lines (place_text segment) (byte segment)) (runs segment)) (range_with_len 1 count)
