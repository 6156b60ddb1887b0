-- The lesser of faults: the least of several, however they are grouped.
use Rattle.std.proofs.Common.{◌≡◌, ℕ, ◌-◌, ◌<◌, ◌≤◌, List, [], ◌∷◌, ◌++◌, refl, sym, ◌∙◌, ap, arith, Bool, true, false, inl, inr}
use Rattle.std.specs.Prelude.{cond, nat_lt, Option, Some, None, is_none, ◌⊎◌, ◌&&◌}
use Rattle.std.proofs.lemmas.Bool.Decides.{leb_tells}
use Rattle.omf_frame.specs.declared.fault.Reason.{Reason}
use Rattle.omf_frame.specs.declared.fault.Reason.TheVariants as reason
use Rattle.omf_frame.specs.Fault.{Fault, is_before, least, least_or, broken, Rule, rule}
use Rattle.omf_frame.proofs.FaultLaws.{key, key_before, before_key}
use Rattle.omf_check.specs.Inner.Judging.{lesser, fault_unless, room_fault}

bool_cases : (b : Bool) → (b ≡ true) ⊎ (b ≡ false)
bool_cases true = inl refl
bool_cases false = inr refl

before : (f g : Fault) → ((is_before f g ≡ true) × (key f ≤ key g)) ⊎ ((is_before f g ≡ false) × (key g < key f))
before f g = elim (leb_tells (key f) (key g)) [
  | inl t ↦ inl (key_before f g t.1, t.1)
  | inr t ↦ elim (bool_cases (is_before f g)) [
    | inl h ↦ let k = before_key f g h in absurd (omega (arith, k, t.1))
    | inr h ↦ inr (h, t.1)
  ]
]

take_first : (f g : Fault) → is_before f g ≡ true → lesser (Some f) (Some g) ≡ Some f
take_first f g h = ap (λ b. cond b (Some f) (Some g)) h

take_second : (f g : Fault) → is_before f g ≡ false → lesser (Some f) (Some g) ≡ Some g
take_second f g h = ap (λ b. cond b (Some f) (Some g)) h

three : (f g h : Fault) → lesser (lesser (Some f) (Some g)) (Some h) ≡ lesser (Some f) (lesser (Some g) (Some h))
three f g h = elim (before f g) [
  | inl a ↦ elim (before g h) [
    | inl b ↦
        let k : is_before f h ≡ true = below f h (omega (arith, a.1, b.1)) in
        ap (λ o. lesser o (Some h)) (take_first f g a.0) ∙ take_first f h k ∙ sym (take_first f g a.0) ∙ ap (λ o. lesser (Some f) o) (sym (take_first g h b.0))
    | inr b ↦ ap (λ o. lesser o (Some h)) (take_first f g a.0) ∙ ap (λ o. lesser (Some f) o) (sym (take_second g h b.0))
  ]
  | inr a ↦ elim (before g h) [
    | inl b ↦ ap (λ o. lesser o (Some h)) (take_second f g a.0) ∙ take_first g h b.0 ∙ sym (take_second f g a.0) ∙ ap (λ o. lesser (Some f) o) (sym (take_first g h b.0))
    | inr b ↦
        let k : is_before f h ≡ false = above f h (omega (arith, a.1, b.1)) in
        ap (λ o. lesser o (Some h)) (take_second f g a.0) ∙ take_second g h b.0 ∙ sym (take_second f h k) ∙ ap (λ o. lesser (Some f) o) (sym (take_second g h b.0))
  ]
]
  where
    below : (f h : Fault) → key f ≤ key h → is_before f h ≡ true
    below f h e = elim (before f h) [ inl t ↦ t.0 | inr t ↦ absurd (omega (arith, t.1)) ]

    above : (f h : Fault) → key h < key f → is_before f h ≡ false
    above f h e = elim (before f h) [ inl t ↦ absurd (omega (arith, t.1)) | inr t ↦ t.0 ]

pub lesser_assoc : (a b c : Option Fault) → lesser (lesser a b) c ≡ lesser a (lesser b c)
lesser_assoc None b c = refl
lesser_assoc (Some f) None c = refl
lesser_assoc (Some f) (Some g) None = only (is_before f g) f g
  where
    only : (b : Bool) (f g : Fault) → lesser (cond b (Some f) (Some g)) None ≡ cond b (Some f) (Some g)
    only true f g = refl
    only false f g = refl
lesser_assoc (Some f) (Some g) (Some h) = three f g h

-- one more
pub lesser_more : (found one old rest all : Option Fault) → old ≡ lesser one rest → lesser found old ≡ all → lesser (lesser found one) rest ≡ all
lesser_more found one old rest all e h = lesser_assoc found one rest ∙ ap (lesser found) (sym e) ∙ h

-- The least of the faults of rules is the lesser of the parts' least.
least_cons : (f : Fault) (fs : List Fault) → least (f ∷ fs) ≡ lesser (Some f) (least fs)
least_cons f [] = refl
least_cons f (g ∷ gs) = only (is_before f (least_or g gs)) f (least_or g gs)
  where
    only : (b : Bool) (f g : Fault) → Some (cond b f g) ≡ cond b (Some f) (Some g)
    only true f g = refl
    only false f g = refl

pub least_append : (fs gs : List Fault) → least (fs ++ gs) ≡ lesser (least fs) (least gs)
least_append [] gs = refl
least_append (f ∷ fs) gs =
    least_cons f (fs ++ gs) ∙ ap (lesser (Some f)) (least_append fs gs) ∙ sym (lesser_assoc (Some f) (least fs) (least gs))
    ∙ ap (λ o. lesser o (least gs)) (sym (least_cons f fs))

pub broken_append : (rs ss : List Rule) → broken (rs ++ ss) ≡ broken rs ++ broken ss
broken_append [] ss = refl
broken_append (r ∷ rs) ss =
    ap (λ t. cond r.holds t (record { within = r.within; reason = r.reason } ∷ t)) (broken_append rs ss)
    ∙ by r.holds (record { within = r.within; reason = r.reason }) (broken rs) (broken ss)
  where
    by : (b : Bool) (f : Fault) (fs gs : List Fault) → cond b (fs ++ gs) (f ∷ fs ++ gs) ≡ cond b fs (f ∷ fs) ++ gs
    by true f fs gs = refl
    by false f fs gs = refl

-- the least fault of rules
abbrev pub fault_of : List Rule → Option Fault
fault_of rules = least (broken rules)

pub fault_append : (rs ss : List Rule) → fault_of (rs ++ ss) ≡ lesser (fault_of rs) (fault_of ss)
fault_append rs ss = ap least (broken_append rs ss) ∙ least_append (broken rs) (broken ss)

pub fault_one : (b : Bool) (within : ℕ) (r : Reason) → fault_of (rule b within r ∷ []) ≡ fault_unless b within r
fault_one true within r = refl
fault_one false within r = refl

pub fault_cons : (b : Bool) (within : ℕ) (r : Reason) (rs : List Rule) → fault_of (rule b within r ∷ rs) ≡ lesser (fault_unless b within r) (fault_of rs)
fault_cons true within r rs = refl
fault_cons false within r rs = least_cons (record { within = within; reason = r }) (broken rs)

pub lesser_none : (o : Option Fault) → lesser o None ≡ o
lesser_none None = refl
lesser_none (Some f) = refl

-- one item more that needs room
pub room_more : (found one now all : Option Fault) (left fewer within : ℕ) (old rest : List ℕ) → now ≡ lesser found one → one ≡ fault_unless (nat_lt 0 left) within reason.TooMany
    → fewer ≡ left - 1 → old ≡ within ∷ rest → lesser found (room_fault left old) ≡ all → lesser now (room_fault fewer rest) ≡ all
room_more found one now all left fewer within old rest n o f s h =
    ap (λ x. lesser x (room_fault fewer rest)) (n ∙ ap (lesser found) o) ∙ ap (λ k. lesser (lesser found (fault_unless (nat_lt 0 left) within reason.TooMany)) (room_fault k rest)) f
    ∙ lesser_more found _ _ (room_fault (left - 1) rest) all (ap (room_fault left) s) h

-- A rule that holds has no fault; the lesser of two faults is none where neither is there.
pub unless_none : (holds : Bool) (within : ℕ) (r : Reason) → is_none (fault_unless holds within r) ≡ holds
unless_none true within r = refl
unless_none false within r = refl

pub lesser_is_none : (a b : Option Fault) → is_none (lesser a b) ≡ is_none a && is_none b
lesser_is_none None b = refl
lesser_is_none (Some f) None = refl
lesser_is_none (Some f) (Some g) = by (is_before f g)
  where
    by : (b : Bool) → is_none (cond b (Some f) (Some g)) ≡ false
    by true = refl
    by false = refl

-- two tests, of which the second is made where the first holds
pub both_hold : (a b : Option Fault) (first second : Bool) → first ≡ is_none a → first ≡ true → second ≡ is_none b → second ≡ is_none (lesser a b)
both_hold a b first second e t f = f ∙ ap (λ x. x && is_none b) (sym t ∙ e) ∙ sym (lesser_is_none a b)

pub first_fails : (a b : Option Fault) (first : Bool) → first ≡ is_none a → first ≡ false → first ≡ is_none (lesser a b)
first_fails a b first e f = f ∙ ap (λ x. x && is_none b) (sym f ∙ e) ∙ sym (lesser_is_none a b)
