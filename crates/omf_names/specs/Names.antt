-- The order of names in a table: by a number that is made of all of a name's bytes, and names of one number by their bytes. Any number
-- would do: it decides how long a table takes, and not what is found in it.
use Rattle.std.specs.Prelude.{ℕ, List, [], ◌∷◌, ◌+◌, ◌*◌, ◌%◌, ◌^◌}
use Rattle.std.specs.Ordering.{nat_cmp, ordering_then}
use Rattle.std.specs.declared.cmp.Ordering.{Ordering}
use Rattle.std.specs.Cmp.Lexicographic.{slice_cmp}

-- The number after one more byte, and after these.
abbrev pub next_number : ℕ → ℕ → ℕ
next_number n b = (n + b) % 2 ^ 64 * 1099511628211 % 2 ^ 64

unfoldable pub number_from : ℕ → List ℕ → ℕ
number_from n [] = n
number_from n (b ∷ bs) = number_from (next_number n b) bs

-- The number of a name.
unfoldable pub name_number : List ℕ → ℕ
name_number bs = number_from 0 bs

-- Which of two names is first.
abbrev pub name_cmp : List ℕ → List ℕ → Ordering
name_cmp xs ys = ordering_then (nat_cmp (name_number xs) (name_number ys)) (slice_cmp nat_cmp xs ys)
