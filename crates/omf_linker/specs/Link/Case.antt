-- The option `--ignore-case` (this profile's rule).
use Rattle.std.specs.Prelude.{ℕ, List, Bool, not, codes}
use Rattle.std.specs.Str.{bytes_eq}

abbrev pub is_ignore_case : List ℕ → Bool
is_ignore_case a = bytes_eq a (codes "--ignore-case")

-- Every other argument.
abbrev pub is_other : List ℕ → Bool
is_other a = not (is_ignore_case a)
