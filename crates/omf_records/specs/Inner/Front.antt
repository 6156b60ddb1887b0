-- The items in front of the first fault, and the steps of a cursor over them.
use Rattle.std.proofs.Common.{◌≡◌, ℕ, zero, suc, ◌+◌, ◌≤◌, ◌≢◌, ◌⊎◌, inl, inr, Bool, List, [], ◌∷◌, ◌++◌, length, Option, Some, None, Result, Ok, Err, refl, sym, ap, subst, ◌∙◌, append_assoc, arith, add-zero}
use Rattle.std.proofs.lemmas.List.{length-append}
use Rattle.omf_frame.specs.Bytes.{AreBytes}
use Rattle.omf_frame.specs.Fault.{Fault}
use Rattle.omf_records.specs.Layout.{Layout, SpellsEach}
use Rattle.omf_records.specs.Values.{At}
use Rattle.omf_records.specs.Inner.Each.{item_at}
use Rattle.omf_records.specs.Inner.Reads.{After, Reading, Reader, Shrinks}
use Rattle.omf_records.specs.Inner.Steps.{AreBytes-rest}

-- The items are those of the bytes in front of the first fault, or of the end: these bytes encode the items, and the bytes after them are
-- none or have a fault.
pub record AreInFront {A : Type 0} (p : Layout A) (at : ℕ) (bytes : List ℕ) (items : List (At A)) : Type 0 where
  pub before : List ℕ
  pub after : List ℕ
  pub parts : bytes ≡ before ++ after
  pub spelled : SpellsEach p at before items
  pub stops : (after ≡ []) ⊎ ((e : Fault) × p.Faults (at + length before) after e)

-- The next item is the first of those in front of the fault; at the fault and at the end there is none.
abbrev pub GivesFront : {A : Type 0} → List (At A) → Result (Option (At A)) Fault → List (At A) → Type 0
GivesFront old (Ok None) new = old ≡ []
GivesFront old (Ok (Some x)) new = old ≡ x ∷ new
GivesFront old (Err f) new = old ≡ []

abbrev pub none_if_refused : {A B : Type 0} → Result A Fault → (A → List B) → List B
none_if_refused (Ok x) f = f x
none_if_refused (Err e) f = []

-- the items that are read before the first fault or the end; n is at least the number of bytes
abbrev pub front_read : {A : Type 0} → Reading A → ℕ → ℕ → List ℕ → List (At A)
front_read read n at [] = []
front_read read zero at (b ∷ bytes) = []
front_read read (suc n) at (b ∷ bytes) = none_if_refused (read at (b ∷ bytes)) (λ a. item_at at a ∷ front_read read n a.within a.rest)

abbrev pub in_front : {A : Type 0} → Reading A → ℕ → List ℕ → List (At A)
in_front read at bytes = front_read read (length bytes) at bytes

none_same : {A B : Type 0} (r : Result A Fault) (f g : A → List B) → ((a : A) → r ≡ Ok a → f a ≡ g a) → none_if_refused r f ≡ none_if_refused r g
none_same (Ok x) f g h = h x refl
none_same (Err e) f g h = refl

module _ {A : Type 0} (read : Reading A) (shrinks : Shrinks read) where
  -- a larger bound changes nothing
  front_enough : (n m at : ℕ) (bytes : List ℕ) → length bytes ≤ n → length bytes ≤ m → front_read read n at bytes ≡ front_read read m at bytes
  front_enough n m at [] hn hm = refl
  front_enough zero m at (b ∷ bytes) hn hm = absurd (omega arith)
  front_enough (suc n) zero at (b ∷ bytes) hn hm = absurd (omega arith)
  front_enough (suc n) (suc m) at (b ∷ bytes) hn hm =
      none_same (read at (b ∷ bytes)) _ _ (λ a e. ap (λ (xs : List (At A)). item_at at a ∷ xs) (front_enough n m a.within a.rest (omega (arith, shrinks at (b ∷ bytes) a e)) (omega (arith, shrinks at (b ∷ bytes) a e))))

  front_step : (at : ℕ) (bytes : List ℕ) (a : After A) → bytes ≢ [] → read at bytes ≡ Ok a → in_front read at bytes ≡ item_at at a ∷ in_front read a.within a.rest
  front_step at [] a h e = absurd (h refl)
  front_step at (b ∷ bytes) a h e = rw e (ap (λ (xs : List (At A)). item_at at a ∷ xs) (front_enough (length bytes) (length a.rest) a.within a.rest (omega (arith, shrinks at (b ∷ bytes) a e)) (omega arith)))

pub front_refused : {A : Type 0} (read : Reading A) (at : ℕ) (bytes : List ℕ) (f : Fault) → read at bytes ≡ Err f → in_front read at bytes ≡ []
front_refused read at [] f e = refl
front_refused read at (b ∷ bytes) f e = rw e refl

pub front_none : {A : Type 0} (read : Reading A) (at : ℕ) (bytes : List ℕ) → bytes ≡ [] → in_front read at bytes ≡ []
front_none read at [] h = refl
front_none read at (b ∷ bytes) h = absurd cc

-- the first item and the others, in a record of one width
pub front_turn : {A : Type 0} (read : Bool → Reading A) (shrinks : (w : Bool) → Shrinks (read w)) (w v : Bool) (at : ℕ) (bytes : List ℕ) (a : After A) → v ≡ w → bytes ≢ [] → read w at bytes ≡ Ok a → in_front (read w) at bytes ≡ item_at at a ∷ in_front (read v) a.within a.rest
front_turn read shrinks w v at bytes a same h e = rw same (front_step (read w) (shrinks w) at bytes a h e)

read_or_refused : {A : Type 0} (r : Result A Fault) → ((a : A) × (r ≡ Ok a)) ⊎ ((e : Fault) × (r ≡ Err e))
read_or_refused (Ok a) = inl (a, refl)
read_or_refused (Err e) = inr (e, refl)

module _ {A : Type 0} (p : Layout A) (r : Reader p) (shrinks : Shrinks r.read) where
  front_is : (n at : ℕ) (bytes : List ℕ) → AreBytes bytes → length bytes ≤ n → AreInFront p at bytes (front_read r.read n at bytes)
  front_is n at [] h le = record { before = []; after = []; parts = refl; spelled = refl; stops = inl refl }
  front_is zero at (b ∷ bytes) h le = absurd (omega arith)
  front_is (suc n) at (b ∷ bytes) h le =
      let others = λ (a : After A). item_at at a ∷ front_read r.read n a.within a.rest in
      elim (read_or_refused (r.read at (b ∷ bytes))) [
        | inr q ↦
            let stop = subst (λ (k : ℕ). p.Faults k (b ∷ bytes) q.0) (sym (add-zero at)) (r.err at (b ∷ bytes) q.0 h q.1) in
            subst (λ (x : Result (After A) Fault). AreInFront p at (b ∷ bytes) (none_if_refused x others)) (sym q.1)
            (record { before = []; after = b ∷ bytes; parts = refl; spelled = refl; stops = inr (q.0, stop) })
        | inl q ↦
            let a = q.0 in
            let t = r.ok at (b ∷ bytes) a h q.1 in
            let less = shrinks at (b ∷ bytes) a q.1 in
            let u = front_is n a.within a.rest (AreBytes-rest (b ∷ bytes) t.front a.rest t.parts h) (omega arith) in
            let place : a.within + length u.before ≡ at + length (t.front ++ u.before) = omega (arith, t.place, length-append t.front u.before) in
            subst (λ (x : Result (After A) Fault). AreInFront p at (b ∷ bytes) (none_if_refused x others)) (sym q.1)
            (record {
              before = t.front ++ u.before;
              after = u.after;
              parts = t.parts ∙ (ap (λ (w : List ℕ). t.front ++ w) u.parts ∙ sym (append_assoc t.front u.before u.after));
              spelled = (t.front, u.before, refl, refl, t.spells, subst (λ (k : ℕ). SpellsEach p k u.before (front_read r.read n a.within a.rest)) t.place u.spelled);
              stops = elim u.stops [
                | inl z ↦ inl z
                | inr z ↦ inr (z.0, subst (λ (k : ℕ). p.Faults k u.after z.0) place z.1)
              ];
            })
      ]

  pub are_in_front : (at : ℕ) (bytes : List ℕ) → AreBytes bytes → AreInFront p at bytes (in_front r.read at bytes)
  are_in_front at bytes h = front_is (length bytes) at bytes h (omega arith)
