-- Segments of code (this profile's rule): the name of their class ends in CODE, as compilers write it.
use Rattle.std.specs.Prelude.{ℕ, List, codes, eqb, Bool, false, Option, Some, None}
use Rattle.std.specs.List.{ends_with}

abbrev pub is_code_class : List ℕ → Bool
is_code_class class = ends_with eqb class (codes "CODE")

-- The same of a class that may have no name.
abbrev pub is_code_name : Option (List ℕ) → Bool
is_code_name None = false
is_code_name (Some class) = is_code_class class
