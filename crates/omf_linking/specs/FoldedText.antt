-- A link text whose names of externals are in lower case (`--ignore-case`; this profile's rule).
use Rattle.std.specs.Prelude.{ℕ, zero, suc, ◌==◌, List, [], ◌∷◌, if◌then◌else◌}
use Rattle.std.specs.Char.{to_ascii_lowercase}
use Rattle.omf_linking.specs.declared.folding.text.Part.{Part}
use Rattle.omf_linking.specs.declared.folding.text.Part.TheVariants.{Front, Letter, Name, Rest}

-- Where the next byte of a line is. A line begins with blanks and its letter; after an X and blanks a quote (34) begins a name, and the next quote ends it. In a
-- name three bytes stay after a backslash (92): an x and two digits.
abbrev pub name_after : ℕ → ℕ → Part
name_after zero c = if c == 34 then Rest else if c == 92 then Name 3 else Name 0
name_after (suc kept) c = if c == 34 then Rest else Name kept

abbrev pub part_after : Part → ℕ → Part
part_after Front c = if c == 32 then Front else if c == 88 then Letter else Rest
part_after Letter c = if c == 32 then Letter else if c == 34 then Name 0 else Rest
part_after (Name kept) c = name_after kept c
part_after Rest c = Rest

abbrev pub next_part : Part → ℕ → Part
next_part p c = if c == 10 then Front else part_after p c

-- The bytes of a name are in lower case, but for those that stay.
abbrev pub folded_byte : Part → ℕ → ℕ
folded_byte (Name zero) c = to_ascii_lowercase c
folded_byte _ c = c

abbrev pub folded_from : Part → List ℕ → List ℕ
folded_from p [] = []
folded_from p (c ∷ cs) = folded_byte p c ∷ folded_from (next_part p c) cs

abbrev pub folded_text : List ℕ → List ℕ
folded_text text = folded_from Front text
