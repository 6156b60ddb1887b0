-- A number below 65,536 that no number below 256 divides is prime.
use Rattle.std.proofs.Common.{◌≡◌, ◌≢◌, ℕ, zero, suc, ◌+◌, ◌*◌, ◌/◌, ◌%◌, ◌<◌, ◌≤◌, sym, ap, ◌∙◌, subst, inl, inr, refl, arith}
use Rattle.std.proofs.lemmas.Bool.{cases_lt}
use Rattle.std.proofs.lemmas.Nat.{mul-le}
use Rattle.std.proofs.Math.Nat.{div-add-mod, mul-mod_left}
use Rattle.omf_making.specs.Made.{IsPrime}

-- What divides a number, divides it by another one.
other : (n d q : ℕ) → n < 65536 → 256 ≤ d → d < n → d * q ≡ n → (1 < q) × ((q < 256) × (q < n))
other n d zero small many low e = absurd (omega (arith, low, e))
other n d (suc zero) small many low e = absurd (omega (arith, low, e))
other n d (suc (suc k)) small many low e =
    let q = suc (suc k) in
    let twice : 2 * q ≤ d * q = mul-le 2 q d q (omega (arith, many)) (omega arith) in
    let few : q < 256 = elim (cases_lt q 256) [
      | inl l ↦ l
      | inr h ↦ let much : 256 * 256 ≤ d * q = mul-le 256 256 d q many h in absurd (omega (arith, much, e, small))
    ] in
    (omega arith, (few, omega (arith, twice, e)))

pub prime_by : (n : ℕ) → 2 ≤ n → n < 65536 → ((d : ℕ) → 1 < d → d < 256 → d < n → n % d ≢ 0) → IsPrime n
prime_by n two small h = (
  two,
  λ d one low e. elim (cases_lt d 256) [
    | inl few ↦ h d one few low e
    | inr many ↦
        let sum = div-add-mod n d in
        let whole : d * (n / d) ≡ n = omega (arith, sum, e) in
        let o = other n d (n / d) small many low whole in
        h (n / d) o.0 o.1.0 o.1.1 (sym (ap (λ x. x % (n / d)) whole) ∙ mul-mod_left d (n / d))
  ],
)
