-- Import definitions: names that a dynamic library has (TIS OMF 1.1, COMENT, "IMPDEF").
use Rattle.std.specs.Prelude.{ℕ, ◌==◌, nat_le, if◌then◌else◌, List, [], ◌∷◌, length, take, Option, Some, None}

-- Characters after their number, if all are there.
abbrev pub counted : List ℕ → Option (List ℕ)
counted [] = None
counted (n ∷ rest) = if nat_le n (length rest) then Some (take n rest) else None

-- The internal name of an import definition (IMPDEF): a comment of the class A0H whose text begins with the subtype 01H
-- and a byte on the ordinal (TIS OMF 1.1, COMENT, "IMPDEF").
abbrev pub import_class : ℕ
import_class = 160

abbrev pub imported : List ℕ → Option (List ℕ)
imported (subtype ∷ ordinal ∷ rest) = if subtype == 1 then counted rest else None
imported _ = None
