-- What the searches for names cost at most.
use Rattle.std.proofs.Common.{◌≡◌, ℕ, ◌+◌, ◌*◌, ◌≤◌, min, arith}
use native.Mathlib.Nat.{mul-le-mul}

low : (x a cap : ℕ) → x ≡ min a cap → x ≤ a
low x a cap e = omega (arith, e)

six : (r x z y : ℕ) → r ≤ x * 6 → x ≤ z → z ≤ y → r ≤ 6 * y
six r x z y e f g = omega (arith, e, f, g)

-- The product of two lesser numbers, each of the steps not more than it would be without a greatest number.
pub most : (n m l k b x r cap : ℕ) → n ≤ m → l ≤ k → b ≡ min (n + 2) cap → x ≡ min (b * l) cap → r ≡ min (x * 6) cap → r ≤ 6 * ((m + 2) * k)
most n m l k b x r cap e f g h i =
    let wide : b ≤ m + 2 = omega (arith, e, g) in
    six r x (b * l) ((m + 2) * k) (low r (x * 6) cap i) (low x (b * l) cap h) (mul-le-mul wide f)
