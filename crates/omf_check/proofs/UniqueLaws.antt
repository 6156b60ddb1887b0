-- An input has at most one refusal.
use Rattle.std.proofs.Common.{◌≡◌, ℕ, suc, ◌+◌, ◌<◌, List, [], ◌∷◌, ◌++◌, refl, sym, ◌∙◌, ap, subst, length, arith, append_assoc, inl, inr}
use Rattle.std.specs.Prelude.{All, flat_map, IsTrue}
use Rattle.std.proofs.lemmas.List.{append_cancel_left, append-nil}
use Rattle.omf_check.specs.Inner.Names.{steps, place_after}
use Rattle.omf_check.specs.declared.profile.Profile.{Profile}
use Rattle.omf_image.specs.declared.limits.Limits.{Limits}
use Rattle.omf_frame.specs.Fault.{Fault, IsLeast, first_step, is_before}
use Rattle.omf_frame.specs.Framing.{Raw, raw_bytes, IsRecord, present, front_record}
use Rattle.omf_frame.specs.declared.fault.Reason.{Reason}
use Rattle.omf_frame.specs.declared.fault.Place.{Place}
use Rattle.omf_check.specs.Refusal.{IsRefused, IsFirstFault, IsFirstOf, IsFramingFault, IsLayoutFault, IsTooLong, IsRuleFault}
use Rattle.omf_frame.proofs.FaultLaws.{least_unique, all_cons}
use Rattle.omf_records.specs.Inner.Steps.{before_itself}
use Rattle.omf_image.specs.Laws.{IsLeastOf}
use Rattle.omf_frame.proofs.FramingLaws.{present_raw, front_raw}

pub nothing_least : (f : Fault) → IsLeast [] f → ⊥
nothing_least f (c, a) = nowhere c.0 c.1
  where
    nowhere : (k : ℕ) → k < 0 → ⊥
    nowhere k h = omega arith

-- the first of a list, and the others
pub all_first : {A : Type 0} (P : A → Type 0) (x : A) (xs : List A) → All P (x ∷ xs) → P x
all_first P x xs h = h 0 x (omega arith)

pub all_rest : {A : Type 0} (P : A → Type 0) (x : A) (xs : List A) → All P (x ∷ xs) → All P xs
all_rest P x xs h k d low = let more : suc k < length (x ∷ xs) = omega arith in h (suc k) d more

module _ (profile : Profile) (limits : Limits) where
  -- Records without fault, after those that are done.
  unfoldable pub AreSound : List Raw → List Raw → Type 0
  AreSound done before = (earlier later : List Raw) (r : Raw) → before ≡ earlier ++ r ∷ later → first_step (steps profile limits (done ++ earlier) (raw_bytes r)) ≡ []

  pub sound_first : (done before : List Raw) (r : Raw) → AreSound done (r ∷ before) → first_step (steps profile limits done (raw_bytes r)) ≡ []
  unfolding AreSound
  sound_first done before r h = ap (λ d. first_step (steps profile limits d (raw_bytes r))) (sym (append-nil done)) ∙ h [] before r refl

  pub sound_rest : (done before : List Raw) (r : Raw) → AreSound done (r ∷ before) → AreSound (done ++ r ∷ []) before
  unfolding AreSound
  sound_rest done before r h earlier later x e =
      ap (λ d. first_step (steps profile limits d (raw_bytes x))) (append_assoc done (r ∷ []) earlier) ∙ h (r ∷ earlier) later x (ap (λ t. r ∷ t) e)

-- the first record is the same
pub same_front : (r s : Raw) (x y : List ℕ) → length r.body + 1 < 65536 → length s.body + 1 < 65536 → raw_bytes r ++ x ≡ raw_bytes s ++ y → r ≡ s
same_front r s x y hr hs e =
    sym (front_raw r hr) ∙ ap front_record (sym (present_raw r hr x) ∙ ap present e ∙ present_raw s hs y) ∙ front_raw s hs

-- Two least faults are one.
same_fault : (f g : Fault) → IsTrue (is_before f g) → IsTrue (is_before g f) → f ≡ g
same_fault f g fg gf =
    least_unique (f ∷ g ∷ []) f g
    ((0, omega arith, refl), all_cons (λ x. IsTrue (is_before f x)) f (g ∷ []) (before_itself f) (all_cons (λ x. IsTrue (is_before f x)) g [] fg (λ k x low. absurd (omega (arith, low)))))
    ((1, omega arith, refl), all_cons (λ x. IsTrue (is_before g x)) f (g ∷ []) gf (all_cons (λ x. IsTrue (is_before g x)) g [] (before_itself g) (λ k x low. absurd (omega (arith, low)))))

pub least_once : (Faults : Fault → Type 0) (f g : Fault) → IsLeastOf Faults f → IsLeastOf Faults g → f ≡ g
least_once Faults f g a b = same_fault f g (a.1 g b.0) (b.1 f a.0)

-- There is one first fault at most.
once_of : (Step Later : Fault → Type 0) (f g : Fault) → (Later f → Later g → f ≡ g) → IsFirstOf Step Later f → IsFirstOf Step Later g → f ≡ g
once_of Step Later f g later (inl a) (inl b) = least_once Step f g a b
once_of Step Later f g later (inl a) (inr b) = absurd (b.0 f a.0)
once_of Step Later f g later (inr a) (inl b) = absurd (a.0 g b.0)
once_of Step Later f g later (inr a) (inr b) = later a.1 b.1

pub first_once : (profile : Profile) (limits : Limits) (before : List Raw) (bytes : List ℕ) (f g : Fault)
    → IsFirstFault profile limits before bytes f → IsFirstFault profile limits before bytes g → f ≡ g
first_once profile limits before bytes f g =
    let r = front_record bytes in
    let rule = IsRuleFault profile limits before r in
    let long = IsFirstOf (IsTooLong limits r) (IsLeastOf rule) in
    once_of (IsFramingFault before bytes) (IsFirstOf (IsLayoutFault limits r) long) f g
    (once_of (IsLayoutFault limits r) long f g (once_of (IsTooLong limits r) (IsLeastOf rule) f g (least_once rule f g)))

module _ (First : List Raw → List ℕ → Fault → Type 0) where
  -- Records without a first fault, after those that are done.
  abbrev pub AreClean : List Raw → List Raw → Type 0
  AreClean done before = (earlier later : List Raw) (r : Raw) → before ≡ earlier ++ r ∷ later → (f : Fault) → First (done ++ earlier) (raw_bytes r) f → ⊥

  clean_first : (done before : List Raw) (r : Raw) → AreClean done (r ∷ before) → (f : Fault) → First done (raw_bytes r) f → ⊥
  clean_first done before r h f x = h [] before r refl f (subst (λ d. First d (raw_bytes r) f) (sym (append-nil done)) x)

  pub clean_rest : (done before : List Raw) (r : Raw) → AreClean done (r ∷ before) → AreClean (done ++ r ∷ []) before
  clean_rest done before r h earlier later x e f q = h (r ∷ earlier) later x (ap (λ t. r ∷ t) e) f (subst (λ d. First d (raw_bytes x) f) (append_assoc done (r ∷ []) earlier) q)

  pub no_fault_here : (done before : List Raw) (r : Raw) (rest bytes : List ℕ) (f : Fault) → AreClean done (r ∷ before) → length r.body + 1 < 65536
      → bytes ≡ raw_bytes r ++ rest → First done (present bytes) f → ⊥
  no_fault_here done before r rest bytes f clean h e first =
      let same : present bytes ≡ raw_bytes r = ap present e ∙ present_raw r h rest in
      clean_first done before r clean f (subst (λ bs. First done bs f) same first)

  -- Two ways to split an input before its fault are one.
  same_before : (done xs ys : List Raw) (p q : List ℕ) (f g : Fault) → All IsRecord xs → All IsRecord ys → AreClean done xs → AreClean done ys
      → flat_map raw_bytes xs ++ p ≡ flat_map raw_bytes ys ++ q → First (done ++ xs) (present p) f → First (done ++ ys) (present q) g → (xs ≡ ys) × (p ≡ q)
  same_before done [] [] p q f g rx ry sx sy e lf lg = (refl, e)
  same_before done [] (y ∷ ys) p q f g rx ry sx sy e lf lg =
      let split : p ≡ raw_bytes y ++ (flat_map raw_bytes ys ++ q) = e ∙ append_assoc (raw_bytes y) (flat_map raw_bytes ys) q in
      absurd (no_fault_here done ys y (flat_map raw_bytes ys ++ q) p f sy (all_first IsRecord y ys ry).0 split (subst (λ d. First d (present p) f) (append-nil done) lf))
  same_before done (x ∷ xs) [] p q f g rx ry sx sy e lf lg =
      let split : q ≡ raw_bytes x ++ (flat_map raw_bytes xs ++ p) = sym e ∙ append_assoc (raw_bytes x) (flat_map raw_bytes xs) p in
      absurd (no_fault_here done xs x (flat_map raw_bytes xs ++ p) q g sx (all_first IsRecord x xs rx).0 split (subst (λ d. First d (present q) g) (append-nil done) lg))
  same_before done (x ∷ xs) (y ∷ ys) p q f g rx ry sx sy e lf lg =
      let whole : raw_bytes x ++ (flat_map raw_bytes xs ++ p) ≡ raw_bytes y ++ (flat_map raw_bytes ys ++ q)
      = sym (append_assoc (raw_bytes x) (flat_map raw_bytes xs) p) ∙ e ∙ append_assoc (raw_bytes y) (flat_map raw_bytes ys) q in
      let first : x ≡ y = same_front x y _ _ (all_first IsRecord x xs rx).0 (all_first IsRecord y ys ry).0 whole in
      let rests : flat_map raw_bytes xs ++ p ≡ flat_map raw_bytes ys ++ q
      = append_cancel_left (raw_bytes y) _ _ (ap (λ r. raw_bytes r ++ (flat_map raw_bytes xs ++ p)) (sym first) ∙ whole) in
      let sy' : AreClean (done ++ x ∷ []) ys = subst (λ r. AreClean (done ++ r ∷ []) ys) (sym first) (clean_rest done ys y sy) in
      let lg' : First (done ++ x ∷ ys) (present q) g = subst (λ r. First (done ++ r ∷ ys) (present q) g) (sym first) lg in
      let others = same_before (done ++ x ∷ []) xs ys p q f g (all_rest IsRecord x xs rx) (all_rest IsRecord y ys ry) (clean_rest done xs x sx) sy' rests
      (subst (λ d. First d (present p) f) (sym (append_assoc done (x ∷ []) xs)) lf) (subst (λ d. First d (present q) g) (sym (append_assoc done (x ∷ []) ys)) lg') in
      (ap (λ t. x ∷ t) others.0 ∙ ap (λ r. r ∷ ys) first, others.1)

-- An input is refused for at most one reason, at one place.
pub refused_once : (profile : Profile) (limits : Limits) (input : List ℕ) (why other : Reason) (at there : Place)
    → IsRefused profile limits input why at → IsRefused profile limits input other there → (why ≡ other) × (at ≡ there)
refused_once profile limits input why other at there r s =
    let First = IsFirstFault profile limits in
    let same = same_before First [] r.before s.before r.rest s.rest r.found s.found r.records s.records r.sound s.sound (sym r.spelled ∙ s.spelled) r.first s.first in
    let here = subst (λ b. First b (present s.rest) r.found) same.0 (subst (λ p. First r.before (present p) r.found) same.1 r.first) in
    let fault : r.found ≡ s.found = first_once profile limits s.before (present s.rest) r.found s.found here s.first in (
      r.named ∙ ap (λ f. f.reason) fault ∙ sym s.named,
      r.there ∙ ap (λ b. place_after b r.found) same.0 ∙ ap (λ f. place_after s.before f) fault ∙ sym s.there,
    )
