-- What more bytes do to the record at hand and to its fault.
use Rattle.std.proofs.Common.{◌≡◌, ℕ, zero, suc, ◌+◌, ◌*◌, ◌≤◌, Bool, true, false, cond, Option, Some, None, List, [], ◌∷◌, ◌++◌, length, take, refl, sym, ap, ◌∙◌, arith}
use Rattle.std.specs.Prelude.{option_map}
use Rattle.std.specs.Option.{option_or}
use borrow.Author.Tests.{leb-true, leb-false}
use Rattle.std.proofs.lemmas.List.{length-append, length-take, take_at, take_all, append-nil}
use Rattle.omf_frame.specs.declared.fault.Reason.{Reason}
use Rattle.omf_frame.specs.Fault.{Fault}
use Rattle.omf_frame.specs.Framing.{present, is_whole, standing_fault, is_end_of_input}
use Rattle.omf_frame.specs.Inner.Names.{lasting}
use Rattle.omf_frame.specs.Inner.Judging.{found, type_fault, whole_fault}
use Rattle.omf_frame.proofs.Judged.{standing_is}
use Rattle.omf_frame.proofs.Growing.{type_same}
use Rattle.omf_frame.proofs.FramingLaws.{present-append}

-- a record that is not whole has at most its type's fault
part_none : (f : Bool) (bytes : List ℕ) → is_whole bytes ≡ false → whole_fault f bytes ≡ None
unfolding whole_fault
part_none f [] h = refl
part_none f (t ∷ []) h = refl
part_none f (t ∷ lo ∷ []) h = refl
part_none f (t ∷ lo ∷ hi ∷ bytes) h = rw h refl

-- one byte more after a part of a record is of that record
pub present_one : (a : List ℕ) (b : ℕ) → is_whole a ≡ false → present (a ++ b ∷ []) ≡ a ++ b ∷ []
present_one [] b h = refl
present_one (t ∷ []) b h = refl
present_one (t ∷ lo ∷ []) b h = ap (λ (r : List ℕ). t ∷ lo ∷ b ∷ r) (take_none (lo + 256 * b))
  where
    take_none : (n : ℕ) → take {A = ℕ} n [] ≡ []
    take_none zero = refl
    take_none (suc n) = refl
present_one (t ∷ lo ∷ hi ∷ a) b h =
    let less = leb-false (lo + 256 * hi) (length a) h in
    let fits : length (a ++ b ∷ []) ≤ lo + 256 * hi = omega (arith, length-append a (b ∷ [])) in
    ap (λ (r : List ℕ). t ∷ lo ∷ hi ∷ r) (take_all (lo + 256 * hi) (a ++ b ∷ []) fits)

pub present_part : (a : List ℕ) → is_whole a ≡ false → present a ≡ a
present_part [] h = refl
present_part (t ∷ []) h = refl
present_part (t ∷ lo ∷ []) h = refl
present_part (t ∷ lo ∷ hi ∷ a) h =
    let less = leb-false (lo + 256 * hi) (length a) h in
    let fits : length a ≤ lo + 256 * hi = omega arith in
    ap (λ (r : List ℕ). t ∷ lo ∷ hi ∷ r) (take_all (lo + 256 * hi) a fits)

nothing : (y : List ℕ) → length y ≡ 0 → y ≡ []
nothing [] h = refl
nothing (b ∷ y) h = absurd (omega arith)

-- after a whole record there is nothing of it
pub whole_nothing_more : (x y : List ℕ) → is_whole x ≡ true → present (x ++ y) ≡ x ++ y → y ≡ []
whole_nothing_more [] y h e = cc
whole_nothing_more (t ∷ []) y h e = cc
whole_nothing_more (t ∷ lo ∷ []) y h e = cc
whole_nothing_more (t ∷ lo ∷ hi ∷ r) y h e =
    let enough = leb-true (lo + 256 * hi) (length r) h in
    nothing y (omega (arith, ap length e, length-take (lo + 256 * hi) (r ++ y), length-append r y))

pub whole_present : (x y : List ℕ) → is_whole x ≡ true → present x ≡ x → present (x ++ y) ≡ x
whole_present [] y h e = cc
whole_present (t ∷ []) y h e = cc
whole_present (t ∷ lo ∷ []) y h e = cc
whole_present (t ∷ lo ∷ hi ∷ r) y h e =
    let enough = leb-true (lo + 256 * hi) (length r) h in
    let exact : length r ≡ lo + 256 * hi = omega (arith, ap length e, length-take (lo + 256 * hi) r) in
    ap (λ (q : List ℕ). t ∷ lo ∷ hi ∷ q) (take_at r y (lo + 256 * hi) exact)

-- the first byte's fault is that of the record at the front
type_front : (t : ℕ) (xs ys : List ℕ) → type_fault (present (t ∷ ys)) ≡ type_fault (t ∷ xs)
unfolding type_fault
type_front t xs ys = sym (type_same (t ∷ ys))

type_alone : (o w : Option (Reason × ℕ)) (g : Fault) → option_map found (option_or o None) ≡ Some g → option_map found (option_or o w) ≡ Some g
type_alone None w g e = cc
type_alone (Some p) w g e = e

-- a permanent fault of some bytes of a record is one of more of them
pub standing_stays : (f : Bool) (x y : List ℕ) (g : Fault) → present x ≡ x → standing_fault f x ≡ Some g → standing_fault f (present (x ++ y)) ≡ Some g
standing_stays f [] y g e h = cc
standing_stays f (t ∷ x) y g e h = by_whole (is_whole (t ∷ x)) refl
  where
    by_whole : (w : Bool) → is_whole (t ∷ x) ≡ w → standing_fault f (present (t ∷ x ++ y)) ≡ Some g
    by_whole true w = ap (standing_fault f) (whole_present (t ∷ x) y w e) ∙ h
    by_whole false w =
        let alone : option_map found (option_or (type_fault (t ∷ x)) None) ≡ Some g = ap (λ o. option_map found (option_or (type_fault (t ∷ x)) o)) (sym (part_none f (t ∷ x) w)) ∙ sym (standing_is f (t ∷ x)) ∙ h in
        standing_is f (present (t ∷ x ++ y)) ∙ ap (λ o. option_map found (option_or o (whole_fault f (present (t ∷ x ++ y))))) (type_front t x (x ++ y)) ∙ type_alone (type_fault (t ∷ x)) (whole_fault f (present (t ∷ x ++ y))) g alone

-- where there is no permanent fault, there was none before
pub sound_front : (f : Bool) (x y : List ℕ) → present (x ++ y) ≡ x ++ y → standing_fault f (x ++ y) ≡ None → standing_fault f x ≡ None
sound_front f x y e h = by_fault (standing_fault f x) refl
  where
    by_whole : (g : Fault) → standing_fault f x ≡ Some g → (w : Bool) → is_whole x ≡ w → standing_fault f x ≡ None
    by_whole g s true w = ap (standing_fault f) (sym (append-nil x) ∙ ap (λ q. x ++ q) (sym (whole_nothing_more x y w e))) ∙ h
    by_whole g s false w = let same : standing_fault f (x ++ y) ≡ Some g = ap (standing_fault f) (sym e) ∙ standing_stays f x y g (present_part x w) s in cc

    by_fault : (o : Option Fault) → standing_fault f x ≡ o → standing_fault f x ≡ None
    by_fault None s = s
    by_fault (Some g) s = by_whole g s (is_whole x) refl

pub present_twice : (x : List ℕ) → present (present x) ≡ present x
present_twice x = ap present (sym (append-nil (present x))) ∙ present-append x [] ∙ ap present (append-nil x)

-- a permanent fault is the fault of framing
pub lasting_some : (o : Option Fault) (f : Fault) → lasting o ≡ Some f → o ≡ Some f
lasting_some None f e = cc
lasting_some (Some g) f e = by_reason (is_end_of_input g.reason) e
  where
    by_reason : (b : Bool) → cond b None (Some g) ≡ Some f → Some g ≡ Some f
    by_reason true e = cc
    by_reason false e = e
