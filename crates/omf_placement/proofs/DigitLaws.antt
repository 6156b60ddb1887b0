-- The values of hexadecimal digits.
use Rattle.std.proofs.Common.{◌≡◌, ℕ, zero, suc, ◌+◌, ◌-◌, ◌*◌, ◌^◌, ◌<◌, ◌≤◌, List, ◌∷◌, Bool, true, refl, subst, arith}
use Rattle.std.specs.Char.{digit_value, is_digit}
use Rattle.std.specs.List.{list_all}
use Rattle.std.specs.Str.Parse.{digits_value_after}
use Rattle.std.proofs.lemmas.Bool.{lt-ltb}
use Rattle.std.proofs.Math.Nat.{pow-suc, one-le-pow}

pub some_power : (k : ℕ) → 0 < 16 ^ k
some_power k = one-le-pow k 16 (omega arith)

one_more_digit : (value digit p : ℕ) → value < p → digit < 16 → value * 16 + digit < p * 16
one_more_digit value digit p h d = omega arith

pub next_below : (value digit k : ℕ) → value < 16 ^ k → digit < 16 → value * 16 + digit < 16 ^ suc k
next_below value digit k h d = rw (pow-suc 16 k) (one_more_digit value digit (16 ^ k) h d)

grows : (j k n : ℕ) → n ≡ j + k → 16 ^ k ≤ 16 ^ n
grows zero k n e = let same : n ≡ k = omega arith in rw same (omega arith)
grows (suc j) k n e = let next : n ≡ suc (j + k) = omega arith in rw (next, pow-suc 16 (j + k)) (omega (arith, grows j k (j + k) refl))

pub at_most_eight : (k : ℕ) → k ≤ 8 → 16 ^ k ≤ 2 ^ 32
at_most_eight k h = grows (8 - k) k 8 (omega arith)

-- the value with one more digit fits 32 bits
pub digit_fits : (value digit most n : ℕ) → value < 16 ^ (most - n) → digit < 16 → 0 < n → n ≤ most → most ≤ 8 → value * 16 + digit < 2 ^ 32
digit_fits value digit most n h d p q r = omega (arith, next_below value digit (most - n) h d, at_most_eight (suc (most - n)) (omega arith))

-- and is below the power of 16 allowed so far
pub still_below : (value digit most n rest : ℕ) → value < 16 ^ (most - n) → digit < 16 → rest + 1 ≡ n → n ≤ most → value * 16 + digit < 16 ^ (most - rest)
still_below value digit most n rest h d e q = let s : suc (most - n) ≡ most - rest = omega arith in subst (λ k. value * 16 + digit < 16 ^ k) s (next_below value digit (most - n) h d)

-- The remaining digits continue from the value with one more digit.
pub next_value : (left rest : List ℕ) (digit char field value total : ℕ) → left ≡ digit ∷ rest → char ≡ digit → field ≡ digit_value char → digits_value_after 16 value left ≡ total → digits_value_after 16 (value * 16 + field) rest ≡ total
next_value left rest digit char field value total e r f h = rw (f, r) (rw e at h)

pub next_digits : (left rest : List ℕ) (digit char : ℕ) (all : Bool) → left ≡ digit ∷ rest → char ≡ digit → digit_value char < 16 → list_all (λ c. is_digit c 16) left ≡ all → list_all (λ c. is_digit c 16) rest ≡ all
next_digits left rest digit char all e r d h = let t : is_digit digit 16 ≡ true = lt-ltb (digit_value digit) 16 (rw r at d) in rw t at (rw e at h)
