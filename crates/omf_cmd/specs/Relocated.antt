-- The text that `reloc` prints of an image and a start (this profile's rule).
use Rattle.std.specs.Option.{option_map_or}
use Rattle.std.specs.Prelude.{ℕ, ◌+◌, ◌-◌, ◌*◌, ◌/◌, List, [], ◌∷◌, ◌++◌, length, flat_map, min, Option, Some, None, option_to_list, codes}
use Rattle.std.specs.List.{range_with_len}
-- computed: runs_are_maximal of omf_image.
use Rattle.omf_image.specs.Inner.Joined.{runs_of}
use Rattle.omf_image.specs.declared.limits.Limits.{Limits}
use Rattle.omf_image.specs.declared.run.Run.{Run}
use Rattle.omf_records.specs.Values.{Rec}
use Rattle.omf_check.specs.Tables.{segments}
use Rattle.omf_reloc.specs.Image.{image, laid, start}
use Rattle.omf_placement.specs.Placement.{Places}
use Rattle.omf_reloc.specs.Plain.{pieces}
use Rattle.omf_placement.specs.Quoted.{hex}

-- A segment and an offset in it: four hexadecimal digits, a colon, and eight.
abbrev pub place_text : ℕ → ℕ → List ℕ
place_text segment offset = hex 4 segment ++ 58 ∷ hex 8 offset

-- A run in lines of 16 bytes, each byte a space and two digits; the last line has what is left.
abbrev pub run_lines : (ℕ → List ℕ) → (ℕ → Option ℕ) → Run → List ℕ
run_lines place byte r = flat_map (λ k. (place (r.first + 16 * k) ++ flat_map (λ x. flat_map (λ b. 32 ∷ hex 2 b) (option_to_list (byte x))) (range_with_len (r.first + 16 * k) (min 16 (r.len - 16 * k))) ++ 10 ∷ [])) (range_with_len 0 ((r.len + 15) / 16))

-- The runs of the segments 1 to `count`, and then the start: the selector in four digits, the offset in eight.
abbrev pub image_text : ℕ → (ℕ → ℕ → Option ℕ) → (ℕ → List Run) → Option (ℕ × ℕ) → List ℕ
image_text count byte runs s = flat_map (λ segment. flat_map (run_lines (place_text segment) (byte segment)) (runs segment)) (range_with_len 1 count)
    ++ option_map_or (λ f. codes "START " ++ hex 4 f.0 ++ 58 ∷ hex 8 f.1 ++ 10 ∷ []) s []

-- The text of a module at a placement that reaches.
abbrev pub reloc_text : Limits → Places → List Rec → List ℕ
reloc_text limits pl m = image_text (length (segments m)) (image limits pl m) (runs_of (laid limits pl (pieces m))) (start pl m)
