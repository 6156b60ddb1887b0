-- Decimal digits.
use Rattle.std.proofs.Common.{◌≡◌, ℕ, ◌*◌, ◌+◌, List, ◌∷◌, Bool, true, ◌<◌}
use Rattle.std.specs.Char.{digit_value, is_digit}
use Rattle.std.specs.List.{list_all}
use Rattle.std.specs.Str.Parse.{digits_value_after}
use Rattle.std.proofs.lemmas.Bool.{lt-ltb}

-- The remaining digits continue from the value with one more digit.
pub next_value : (left rest : List ℕ) (digit char field value total : ℕ) → left ≡ digit ∷ rest → char ≡ digit → field ≡ digit_value char → digits_value_after 10 value left ≡ total → digits_value_after 10 (value * 10 + field) rest ≡ total
next_value left rest digit char field value total e r f h = rw (f, r) (rw e at h)

pub next_digits : (left rest : List ℕ) (digit char : ℕ) (all : Bool) → left ≡ digit ∷ rest → char ≡ digit → digit_value char < 10 → list_all (λ c. is_digit c 10) left ≡ all → list_all (λ c. is_digit c 10) rest ≡ all
next_digits left rest digit char all e r d h = let t : is_digit digit 10 ≡ true = lt-ltb (digit_value digit) 10 (rw r at d) in rw t at (rw e at h)
