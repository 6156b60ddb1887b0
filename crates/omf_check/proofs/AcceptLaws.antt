-- No input is both accepted and refused, and at most one module is accepted.
use Rattle.std.proofs.Common.{◌≡◌, ℕ, List, [], ◌∷◌, ◌++◌, refl, sym, ◌∙◌, ap, subst, arith, append_assoc, Bool, true, false}
use Rattle.std.specs.Prelude.{All, flat_map, IsTrue, not, ◌||◌, slice_index}
use Rattle.std.proofs.lemmas.List.{append_cancel_left, append-nil}
use Rattle.omf_check.specs.Inner.Names.{is_empty}
use Rattle.omf_check.specs.declared.profile.Profile.{Profile}
use Rattle.omf_image.specs.declared.limits.Limits.{Limits}
use Rattle.omf_frame.specs.declared.fault.Reason.{Reason}
use Rattle.omf_frame.specs.declared.fault.Place.{Place}
use Rattle.omf_frame.specs.Fault.{Fault}
use Rattle.omf_frame.specs.Framing.{Raw, raw_bytes, IsRecord, IsFramed, is_taken, is_header, is_end, present}
use Rattle.omf_records.specs.Records.{IsTyped}
use Rattle.omf_records.specs.Inner.Reading.{typed}
use Rattle.omf_check.specs.Refusal.{IsRefused, IsFirstFault}
use Rattle.omf_check.specs.WellFormed.{IsWellFormed, IsAccepted, HasTrees}
use Rattle.omf_records.specs.Inner.LawProofs.{are_typed}
use Rattle.omf_check.proofs.TreeLaws.{no_block_fault}
use Rattle.omf_frame.proofs.FaultLaws.{untrue, all_cons}
use Rattle.omf_check.proofs.WellLaws.{well-read}
use Rattle.omf_check.proofs.UniqueLaws.{AreSound, AreClean, all_first, all_rest, same_front, no_fault_here, clean_rest}
use Rattle.omf_check.proofs.FirstLaws.{none-first}
use Rattle.omf_check.proofs.StepLaws.{no_step}

pub all_left : {A : Type 0} (P : A → Type 0) (xs ys : List A) → All P (xs ++ ys) → All P xs
all_left P [] ys h = λ k d low. absurd (omega (arith, low))
all_left P (x ∷ xs) ys h = all_cons P x xs (all_first P x (xs ++ ys) h) (all_left P xs ys (all_rest P x (xs ++ ys) h))

pub all_right : {A : Type 0} (P : A → Type 0) (xs ys : List A) → All P (xs ++ ys) → All P ys
all_right P [] ys h = h
all_right P (x ∷ xs) ys h = all_right P xs ys (all_rest P x (xs ++ ys) h)

-- what all satisfy, one in the middle does
pub all_middle : {A : Type 0} (P : A → Type 0) (xs earlier later : List A) (x : A) → xs ≡ earlier ++ x ∷ later → All P xs → P x
all_middle P xs earlier later x e h = all_first P x later (all_right P earlier (x ∷ later) (subst (λ ys. All P ys) e h))

ends : (x : Bool) → IsTrue x → IsTrue (not x) → ⊥
ends true h n = untrue n
ends false h n = untrue h

-- a record that begins the bytes is their header
headed : (earlier later rs : List Raw) (r : Raw) (bytes : List ℕ) → rs ≡ earlier ++ r ∷ later → bytes ≡ flat_map raw_bytes rs
    → IsTrue (is_header (slice_index bytes 0)) → IsTrue (not (is_empty earlier) || is_header r.kind)
headed [] later rs r bytes e s h = subst (λ bs. IsTrue (is_header (slice_index bs 0))) (s ∙ ap (λ xs. flat_map raw_bytes xs) e) h
headed (x ∷ earlier) later rs r bytes e s h = refl

module _ (profile : Profile) (limits : Limits) where
  -- The records of a module have no fault.
  pub module_sound : (bytes : List ℕ) (rs : List Raw) → IsWellFormed profile limits bytes rs → AreSound profile limits [] rs
  unfolding AreSound
  module_sound bytes rs m earlier later r e =
      let w = well-read profile limits bytes rs m in
      no_step profile limits earlier r (all_middle IsRecord rs earlier later r e w.framed.each) (record {
        known = all_middle (λ x. IsTrue (is_taken x.kind)) rs earlier later r e w.framed.types;
        headed = headed earlier later rs r bytes e w.framed.spelled w.framed.first;
        read = (are_typed r (typed r) refl (all_middle (λ x. IsTyped (typed x) x.body) rs earlier later r e w.spelled)).1;
        blocks = (no_block_fault limits r.kind (typed r).contents (all_middle (λ x. HasTrees limits x.kind (typed x).contents) rs earlier later r e w.blocks)).0;
        long = (no_block_fault limits r.kind (typed r).contents (all_middle (λ x. HasTrees limits x.kind (typed x).contents) rs earlier later r e w.blocks)).1;
        kept = w.kept earlier later r e;
      })

  -- one record at the front of both, and the bytes after it
  front_same : (r s : Raw) (rs ss : List Raw) (p q : List ℕ) → IsRecord r → IsRecord s
      → flat_map raw_bytes (r ∷ rs) ++ p ≡ flat_map raw_bytes (s ∷ ss) ++ q → (r ≡ s) × (flat_map raw_bytes rs ++ p ≡ flat_map raw_bytes ss ++ q)
  front_same r s rs ss p q hr hs e =
      let whole : raw_bytes r ++ (flat_map raw_bytes rs ++ p) ≡ raw_bytes s ++ (flat_map raw_bytes ss ++ q)
      = sym (append_assoc (raw_bytes r) (flat_map raw_bytes rs) p) ∙ e ∙ append_assoc (raw_bytes s) (flat_map raw_bytes ss) q in
      let first : r ≡ s = same_front r s _ _ hr.0 hs.0 whole in
      (first, append_cancel_left (raw_bytes s) _ _ (ap (λ x. raw_bytes x ++ (flat_map raw_bytes rs ++ p)) (sym first) ∙ whole))

  -- Sound records up to a MODEND, and records before a fault with no MODEND among them, do not begin one input.
  module _ (First : List Raw → List ℕ → Fault → Type 0) where
    no_both : (done front before : List Raw) (end : Raw) (p q : List ℕ) (f : Fault) → All IsRecord (front ++ end ∷ []) → All IsRecord before
        → IsTrue (is_end end.kind) → All (λ r. IsTrue (not (is_end r.kind))) before
        → AreClean First done (front ++ end ∷ []) → flat_map raw_bytes (front ++ end ∷ []) ++ p ≡ flat_map raw_bytes before ++ q
        → First (done ++ before) (present q) f → ⊥
    no_both done [] [] end p q f rx ry is_last run sound e first =
        no_fault_here First done [] end p q f sound (all_first IsRecord end [] rx).0 (sym e ∙ ap (λ bs. bs ++ p) (append-nil (raw_bytes end)))
        (subst (λ d. First d (present q) f) (append-nil done) first)
    no_both done (x ∷ front) [] end p q f rx ry is_last run sound e first =
        no_fault_here First done (front ++ end ∷ []) x (flat_map raw_bytes (front ++ end ∷ []) ++ p) q f sound (all_first IsRecord x (front ++ end ∷ []) rx).0
        (sym e ∙ append_assoc (raw_bytes x) (flat_map raw_bytes (front ++ end ∷ [])) p) (subst (λ d. First d (present q) f) (append-nil done) first)
    no_both done [] (y ∷ before) end p q f rx ry is_last run sound e first =
        let same = front_same end y [] before p q (all_first IsRecord end [] rx) (all_first IsRecord y before ry) e in
        ends (is_end y.kind) (subst (λ r. IsTrue (is_end r.kind)) same.0 is_last) (all_first (λ r. IsTrue (not (is_end r.kind))) y before run)
    no_both done (x ∷ front) (y ∷ before) end p q f rx ry is_last run sound e first =
        let same = front_same x y (front ++ end ∷ []) before p q (all_first IsRecord x (front ++ end ∷ []) rx) (all_first IsRecord y before ry) e in
        let first' : First (done ++ x ∷ before) (present q) f = subst (λ r. First (done ++ r ∷ before) (present q) f) (sym same.0) first in
        no_both (done ++ x ∷ []) front before end p q f (all_rest IsRecord x (front ++ end ∷ []) rx) (all_rest IsRecord y before ry) is_last
        (all_rest (λ r. IsTrue (not (is_end r.kind))) y before run) (clean_rest First done (front ++ end ∷ []) x sound) same.1
        (subst (λ d. First d (present q) f) (sym (append_assoc done (x ∷ []) before)) first')

  -- Two lists of records, each up to its first MODEND, that begin one input, are one.
  same_records : (xs ys : List Raw) (x y : Raw) (p q : List ℕ) → All IsRecord (xs ++ x ∷ []) → All IsRecord (ys ++ y ∷ [])
      → IsTrue (is_end x.kind) → IsTrue (is_end y.kind)
      → All (λ r. IsTrue (not (is_end r.kind))) xs → All (λ r. IsTrue (not (is_end r.kind))) ys
      → flat_map raw_bytes (xs ++ x ∷ []) ++ p ≡ flat_map raw_bytes (ys ++ y ∷ []) ++ q → xs ++ x ∷ [] ≡ ys ++ y ∷ []
  same_records [] [] x y p q rx ry ex ey hx hy e =
      let same = front_same x y [] [] p q (all_first IsRecord x [] rx) (all_first IsRecord y [] ry) e in ap (λ r. r ∷ []) same.0
  same_records [] (b ∷ ys) x y p q rx ry ex ey hx hy e =
      let same = front_same x b [] (ys ++ y ∷ []) p q (all_first IsRecord x [] rx) (all_first IsRecord b (ys ++ y ∷ []) ry) e in
      absurd (ends (is_end b.kind) (subst (λ r. IsTrue (is_end r.kind)) same.0 ex) (all_first (λ r. IsTrue (not (is_end r.kind))) b ys hy))
  same_records (a ∷ xs) [] x y p q rx ry ex ey hx hy e =
      let same = front_same a y (xs ++ x ∷ []) [] p q (all_first IsRecord a (xs ++ x ∷ []) rx) (all_first IsRecord y [] ry) e in
      absurd (ends (is_end a.kind) (subst (λ r. IsTrue (is_end r.kind)) (sym same.0) ey) (all_first (λ r. IsTrue (not (is_end r.kind))) a xs hx))
  same_records (a ∷ xs) (b ∷ ys) x y p q rx ry ex ey hx hy e =
      let same = front_same a b (xs ++ x ∷ []) (ys ++ y ∷ []) p q (all_first IsRecord a (xs ++ x ∷ []) rx) (all_first IsRecord b (ys ++ y ∷ []) ry) e in
      let others = same_records xs ys x y p q (all_rest IsRecord a (xs ++ x ∷ []) rx) (all_rest IsRecord b (ys ++ y ∷ []) ry) ex ey
      (all_rest (λ r. IsTrue (not (is_end r.kind))) a xs hx) (all_rest (λ r. IsTrue (not (is_end r.kind))) b ys hy) same.1 in
      ap (λ t. a ∷ t) others ∙ ap (λ r. r ∷ ys ++ y ∷ []) same.0

-- Two modules that begin one input have the same records.
pub same_modules : (input m n p q : List ℕ) (rs ss : List Raw) → IsFramed m rs → IsFramed n ss → input ≡ m ++ p → input ≡ n ++ q → (rs ≡ ss) × (m ≡ n)
same_modules input m n p q rs ss f g em en =
    let x : Raw = f.last.1 in
    let y : Raw = g.last.1 in
    let ef : rs ≡ f.last.0 ++ x ∷ [] = f.last.2 in
    let eg : ss ≡ g.last.0 ++ y ∷ [] = g.last.2 in
    let sm : m ≡ flat_map raw_bytes (f.last.0 ++ x ∷ []) = f.spelled ∙ ap (λ z. flat_map raw_bytes z) ef in
    let sn : n ≡ flat_map raw_bytes (g.last.0 ++ y ∷ []) = g.spelled ∙ ap (λ z. flat_map raw_bytes z) eg in
    let both : flat_map raw_bytes (f.last.0 ++ x ∷ []) ++ p ≡ flat_map raw_bytes (g.last.0 ++ y ∷ []) ++ q
    = ap (λ z. z ++ p) (sym sm) ∙ sym em ∙ en ∙ ap (λ z. z ++ q) sn in
    let A : List Raw → Type 0 = λ z. All IsRecord z in
    let same : f.last.0 ++ x ∷ [] ≡ g.last.0 ++ y ∷ []
    = same_records (record { refuse_vendor_comments = true }) (record { nesting = 0; expanded = 0 }) f.last.0 g.last.0 x y p q (subst A ef f.each) (subst A eg g.each) f.last.3 g.last.3 f.last.4 g.last.4 both in
    let rows : rs ≡ ss = ef ∙ same ∙ sym eg in
    (rows, f.spelled ∙ ap (λ z. flat_map raw_bytes z) rows ∙ sym g.spelled)

-- One prefix of an input is accepted at most.
pub accepted_once : (profile : Profile) (limits : Limits) (input : List ℕ) (rs ss : List Raw) → (a : IsAccepted profile limits input rs) → (b : IsAccepted profile limits input ss) → (rs ≡ ss) × (a.bytes ≡ b.bytes)
accepted_once profile limits input rs ss a b = same_modules input a.bytes b.bytes a.rest b.rest rs ss a.well_formed.framed b.well_formed.framed a.spelled b.spelled

-- No input is accepted and refused.
pub never_both : (profile : Profile) (limits : Limits) (input : List ℕ) (rs : List Raw) (why : Reason) (at : Place)
    → IsAccepted profile limits input rs → IsRefused profile limits input why at → ⊥
unfolding AreSound
never_both profile limits input rs why at a r =
    let f : IsFramed a.bytes rs = a.well_formed.framed in
    let ef : rs ≡ f.last.0 ++ f.last.1 ∷ [] = f.last.2 in
    let A : List Raw → Type 0 = λ z. All IsRecord z in
    let First = IsFirstFault profile limits in
    let sm : a.bytes ≡ flat_map raw_bytes (f.last.0 ++ f.last.1 ∷ []) = f.spelled ∙ ap (λ z. flat_map raw_bytes z) ef in
    let old : AreSound profile limits [] (f.last.0 ++ f.last.1 ∷ []) = subst (λ z. AreSound profile limits [] z) ef (module_sound profile limits a.bytes rs a.well_formed) in
    let clean : AreClean First [] (f.last.0 ++ f.last.1 ∷ []) = λ earlier later x e g h. none-first profile limits earlier (raw_bytes x) (old earlier later x e) g h in
    no_both profile limits First [] f.last.0 r.before f.last.1 a.rest r.rest r.found (subst A ef f.each) r.records f.last.3 r.running clean
    (ap (λ z. z ++ a.rest) (sym sm) ∙ sym a.spelled ∙ r.spelled) r.first
