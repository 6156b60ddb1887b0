-- Steps of readings.
use Rattle.std.proofs.Common.{◌≡◌, ℕ, suc, Bool, true, false, Result, Ok, Err, refl, arith}
use Rattle.std.specs.Prelude.{◌==◌}
use Rattle.std.proofs.lemmas.Bool.{eqb-true}
use Rattle.omf_frame.specs.Fault.{Fault}
use Rattle.omf_records.specs.Inner.Reads.{and_then}

pub then_same : {A B : Type 0} (r : Result A Fault) (f g : A → Result B Fault) → ((a : A) → f a ≡ g a) → and_then r f ≡ and_then r g
then_same (Ok a) f g h = h a
then_same (Err e) f g h = refl

pub then_when : {A B : Type 0} (r : Result A Fault) (f g : A → Result B Fault) → ((a : A) → r ≡ Ok a → f a ≡ g a) → and_then r f ≡ and_then r g
then_when (Ok a) f g h = h a refl
then_when (Err e) f g h = refl

pub then_then : {A B C : Type 0} (r : Result A Fault) (f : A → Result B Fault) (g : B → Result C Fault) → and_then (and_then r f) g ≡ and_then r (λ a. and_then (f a) g)
then_then (Ok a) f g = refl
then_then (Err e) f g = refl

pub is_some : (n : ℕ) → suc n == 0 ≡ false
is_some n = by (suc n == 0) refl
  where
    by : (b : Bool) → suc n == 0 ≡ b → suc n == 0 ≡ false
    by true e = absurd (let z = eqb-true (suc n) 0 e in omega (arith, z))
    by false e = e
