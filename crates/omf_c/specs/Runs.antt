-- Runs of an image with their bytes (this profile's rule).
use Rattle.std.specs.Prelude.{ℕ, List, map, flat_map, Option, option_to_list}
use Rattle.std.specs.List.{range_with_len}
use Rattle.omf_image.specs.declared.run.Run.{Run}
use Rattle.omf_c.specs.declared.rows.RunRow.{RunRow}

-- Runs, and the bytes of all of them.
pub record Shown : Type 0 where
  pub runs : List RunRow
  pub bytes : List ℕ

-- A run of a segment, and its bytes.
abbrev pub run_row : ℕ → Run → RunRow
run_row segment r = record { size = r.len; segment = segment; offset = r.first }

abbrev pub bytes_over : (ℕ → Option ℕ) → Run → List ℕ
bytes_over byte r = flat_map (λ x. option_to_list (byte x)) (range_with_len r.first r.len)

-- The runs of the segments 1 to `count`.
abbrev pub shown_of : ℕ → (ℕ → ℕ → Option ℕ) → (ℕ → List Run) → Shown
shown_of count byte runs = record {
  runs = flat_map (λ s. map (run_row s) (runs s)) (range_with_len 1 count);
  bytes = flat_map (λ s. flat_map (bytes_over (byte s)) (runs s)) (range_with_len 1 count);
}
