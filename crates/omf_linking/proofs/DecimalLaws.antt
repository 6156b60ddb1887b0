-- The values of decimal digits.
use Rattle.std.proofs.Common.{◌≡◌, ℕ, zero, suc, ◌+◌, ◌-◌, ◌*◌, ◌^◌, ◌<◌, ◌≤◌, List, ◌∷◌, Bool, true, refl, subst, arith}
use Rattle.std.specs.Char.{digit_value, is_digit}
use Rattle.std.specs.List.{list_all}
use Rattle.std.specs.Str.Parse.{digits_value_after}
use Rattle.std.proofs.lemmas.Bool.{lt-ltb}
use Rattle.std.proofs.Math.Nat.{pow-suc, one-le-pow}

pub some_power : (k : ℕ) → 0 < 10 ^ k
some_power k = one-le-pow k 10 (omega arith)

one_more_digit : (value digit p : ℕ) → value < p → digit < 10 → value * 10 + digit < p * 10
one_more_digit value digit p h d = omega arith

pub next_below : (value digit k : ℕ) → value < 10 ^ k → digit < 10 → value * 10 + digit < 10 ^ suc k
next_below value digit k h d = rw (pow-suc 10 k) (one_more_digit value digit (10 ^ k) h d)

grows : (j k n : ℕ) → n ≡ j + k → 10 ^ k ≤ 10 ^ n
grows zero k n e = let same : n ≡ k = omega arith in rw same (omega arith)
grows (suc j) k n e = let next : n ≡ suc (j + k) = omega arith in rw (next, pow-suc 10 (j + k)) (omega (arith, grows j k (j + k) refl))

pub at_most_ten : (k : ℕ) → k ≤ 10 → 10 ^ k ≤ 2 ^ 64
at_most_ten k h = let low = grows (10 - k) k 10 (omega arith) in omega (arith, low)

-- the value with one more digit fits 64 bits
pub digit_fits : (value digit most n : ℕ) → value < 10 ^ (most - n) → digit < 10 → 0 < n → n ≤ most → most ≤ 10 → value * 10 + digit < 2 ^ 64
digit_fits value digit most n h d p q r = omega (arith, next_below value digit (most - n) h d, at_most_ten (suc (most - n)) (omega arith))

-- and is below the power of 10 allowed so far
pub still_below : (value digit most n rest : ℕ) → value < 10 ^ (most - n) → digit < 10 → rest + 1 ≡ n → n ≤ most → value * 10 + digit < 10 ^ (most - rest)
still_below value digit most n rest h d e q = let s : suc (most - n) ≡ most - rest = omega arith in subst (λ k. value * 10 + digit < 10 ^ k) s (next_below value digit (most - n) h d)

-- The remaining digits continue from the value with one more digit.
pub next_value : (left rest : List ℕ) (digit char field value total : ℕ) → left ≡ digit ∷ rest → char ≡ digit → field ≡ digit_value char → digits_value_after 10 value left ≡ total → digits_value_after 10 (value * 10 + field) rest ≡ total
next_value left rest digit char field value total e r f h = rw (f, r) (rw e at h)

pub next_digits : (left rest : List ℕ) (digit char : ℕ) (all : Bool) → left ≡ digit ∷ rest → char ≡ digit → digit_value char < 10 → list_all (λ c. is_digit c 10) left ≡ all → list_all (λ c. is_digit c 10) rest ≡ all
next_digits left rest digit char all e r d h = let t : is_digit digit 10 ≡ true = lt-ltb (digit_value digit) 10 (rw r at d) in rw t at (rw e at h)
