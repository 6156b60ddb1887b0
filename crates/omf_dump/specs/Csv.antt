-- Comma-separated values (RFC 4180). Names are in double quotes; a cell without a value is empty.
use Rattle.std.specs.Prelude.{ℕ, List, [], ◌∷◌, ◌++◌, flat_map, ◌==◌, Option, Some, None, if◌then◌else◌}
use Rattle.omf_dump.specs.Render.{escaped}
use Rattle.omf_dump.specs.declared.format.Format.TheVariants as format

-- A byte of a name: the quote is written twice (RFC 4180, section 2, 7). Bytes outside 20H to 7EH and the backslash are \x and two digits, as in
-- text (this profile's rule).
abbrev pub csv_byte : ℕ → List ℕ
csv_byte c = if c == 34 then 34 ∷ 34 ∷ [] else escaped format.Text c

abbrev pub csv_quoted : List ℕ → List ℕ
csv_quoted name = 34 ∷ flat_map csv_byte name ++ 34 ∷ []

abbrev pub csv_name : Option (List ℕ) → List ℕ
csv_name None = []
csv_name (Some name) = csv_quoted name
