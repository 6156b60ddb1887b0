-- Lemmas for the proofs about readings.
use Rattle.std.proofs.Common.{◌≡◌, ℕ, zero, suc, ◌≤◌, ◌⊎◌, inl, inr, Bool, true, false, cond, List, [], ◌∷◌, ◌++◌, take, drop, Result, Ok, Err, refl, sym, subst, arith}
use Rattle.std.specs.Prelude.{IsTrue, nat_lt}
use Rattle.std.proofs.lemmas.Bool.{eq-eqb, le-leb, or_right, and_from}
use Rattle.std.proofs.lemmas.List.{take-append-drop}
use Rattle.omf_frame.specs.Bytes.{AreBytes}
use Rattle.omf_frame.specs.Fault.{Fault, is_before, reason_number}
use Rattle.omf_records.specs.Inner.Reads.{and_then, Refuses}

pub and_then_ok : {A B : Type 0} (r : Result A Fault) (f : A → Result B Fault) (y : B) → and_then r f ≡ Ok y → (x : A) × (r ≡ Ok x) × (f x ≡ Ok y)
and_then_ok (Ok x) f y e = (x, refl, e)
and_then_ok (Err d) f y e = absurd cc

pub and_then_err : {A B : Type 0} (r : Result A Fault) (f : A → Result B Fault) (d : Fault) → and_then r f ≡ Err d → (r ≡ Err d) ⊎ ((x : A) × (r ≡ Ok x) × (f x ≡ Err d))
and_then_err (Ok x) f d e = inr (x, refl, e)
and_then_err (Err c) f d e = inl cc

pub guard_ok : {A : Type 0} (b : Bool) (d : Fault) (x y : A) → cond b (Err d) (Ok x) ≡ Ok y → (b ≡ false) × (x ≡ y)
guard_ok true d x y e = absurd cc
guard_ok false d x y e = (refl, cc)

pub guard_err : {A : Type 0} (b : Bool) (d : Fault) (x : A) (e : Fault) → cond b (Err d) (Ok x) ≡ Err e → e ≡ d
guard_err true d x e h = cc
guard_err false d x e h = absurd cc

pub chosen : {A : Type 0} (b : Bool) (x y z : A) → cond b x y ≡ z → ((b ≡ true) × (x ≡ z)) ⊎ ((b ≡ false) × (y ≡ z))
chosen true x y z e = inl (refl, e)
chosen false x y z e = inr (refl, e)

pub AreBytes-back : (front back : List ℕ) → AreBytes (front ++ back) → AreBytes back
AreBytes-back [] back h = h
AreBytes-back (x ∷ front) back h = AreBytes-back front back (λ i. h (suc i))

pub AreBytes-none : AreBytes []
AreBytes-none i = omega arith

pub AreBytes-front : (front back : List ℕ) → AreBytes (front ++ back) → AreBytes front
AreBytes-front [] back h i = AreBytes-none i
AreBytes-front (x ∷ front) back h zero = h 0
AreBytes-front (x ∷ front) back h (suc i) = AreBytes-front front back (λ i. h (suc i)) i

pub AreBytes-rest : (bytes front rest : List ℕ) → bytes ≡ front ++ rest → AreBytes bytes → AreBytes rest
AreBytes-rest bytes front rest e h = AreBytes-back front rest (subst AreBytes e h)

pub AreBytes-take : (n : ℕ) (bytes : List ℕ) → AreBytes bytes → AreBytes (take n bytes)
AreBytes-take n bytes h = AreBytes-front (take n bytes) (drop n bytes) (subst AreBytes (sym (take-append-drop n bytes)) h)

-- at one offset the smaller number comes first
pub before_here : (e f : Fault) → e.within ≡ f.within → reason_number e.reason ≤ reason_number f.reason → IsTrue (is_before e f)
before_here e f same le = or_right (nat_lt e.within f.within) _ (and_from _ _ (eq-eqb e.within f.within same) (le-leb _ _ le))

pub before_itself : (e : Fault) → IsTrue (is_before e e)
before_itself e = before_here e e refl (omega arith)

pub refused_by : {A : Type 0} (r : Result A Fault) (e f : Fault) → r ≡ Err e → e ≡ f → Refuses r f
refused_by r e f h q = record { given = e; is = h; first = subst (λ (x : Fault). IsTrue (is_before e x)) q (before_itself e) }
