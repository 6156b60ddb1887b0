-- The type of a type byte and what is done with its records agree.
use Rattle.std.proofs.Common.{◌≡◌, ◌∙◌, ℕ, ◌+◌, ◌-◌, ◌/◌, ◌%◌, ◌<◌, ◌≤◌, List, [], ◌∷◌, refl, ap, subst, Bool, true, false, arith}
use Rattle.std.specs.Prelude.{IsTrue, ◌^◌, ◌||◌, ◌&&◌, ◌==◌}
use Rattle.std.proofs.lemmas.Bool.{eqb-true, agree_below_at}
use Rattle.omf_frame.specs.Bytes.{is_one_of}
use Rattle.omf_frame.specs.Framing.{is_taken}
use Rattle.omf_frame.proofs.FaultLaws.{untrue}

-- what all of a list pass
unfoldable pub all_of : {A : Type 0} → (A → Bool) → List A → Bool
all_of test [] = true
all_of test (n ∷ ns) = test n && all_of test ns

and_parts : (x y : Bool) → IsTrue (x && y) → IsTrue x × IsTrue y
and_parts true y h = (refl, h)
and_parts false y h = absurd (untrue h)

pub any_all : (test : ℕ → Bool) (ns : List ℕ) (k : ℕ) → IsTrue (is_one_of ns k) → IsTrue (all_of test ns) → IsTrue (test k)
unfolding all_of
any_all test [] k h a = absurd (untrue h)
any_all test (n ∷ ns) k h a = by (n == k) refl h (λ t. any_all test ns k t (and_parts (test n) (all_of test ns) a).1)
  where
    by : (b : Bool) → n == k ≡ b → IsTrue (b || is_one_of ns k) → (IsTrue (is_one_of ns k) → IsTrue (test k)) → IsTrue (test k)
    by true e t others = subst (λ j. IsTrue (test j)) (eqb-true n k e) (and_parts (test n) (all_of test ns) a).0
    by false e t others = others t

-- ---- the types that are taken, as the bits of two numbers

is_bit : ℕ → ℕ → Bool
is_bit bits n = bits / 2 ^ n % 2 == 1

taken-low : (n : ℕ) → n < 64 → is_bit 139893128780012805 n ≡ is_taken (128 + n)
unfolding is_bit
taken-low n low = agree_below_at (is_bit 139893128780012805) (λ k. is_taken (128 + k)) 64 n refl low

taken-high : (n : ℕ) → n < 64 → is_bit 5232 n ≡ is_taken (192 + n)
unfolding is_bit
taken-high n low = agree_below_at (is_bit 5232) (λ k. is_taken (192 + k)) 64 n refl low

pub untaken : (kind : ℕ) → kind < 128 → false ≡ is_taken kind
untaken kind low = agree_below_at (λ k. false) is_taken 128 kind refl low

pub taken_by_low : (kind : ℕ) → 128 ≤ kind → kind < 192 → (139893128780012805 / 2 ^ (kind % 64) % 2 == 1) ≡ is_taken kind
unfolding is_bit
taken_by_low kind low high =
    let n : kind % 64 ≡ kind - 128 = omega (arith, low, high) in let k : 128 + (kind - 128) ≡ kind = omega (arith, low) in
    ap (is_bit 139893128780012805) n ∙ taken-low (kind - 128) (omega (arith, low, high)) ∙ ap is_taken k

pub taken_by_high : (kind : ℕ) → 192 ≤ kind → kind < 256 → (5232 / 2 ^ (kind % 64) % 2 == 1) ≡ is_taken kind
unfolding is_bit
taken_by_high kind low high =
    let n : kind % 64 ≡ kind - 192 = omega (arith, low, high) in let k : 192 + (kind - 192) ≡ kind = omega (arith, low) in
    ap (is_bit 5232) n ∙ taken-high (kind - 192) (omega (arith, low, high)) ∙ ap is_taken k
