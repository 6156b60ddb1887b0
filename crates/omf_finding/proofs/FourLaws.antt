-- Four bytes in a row, of a segment and of a program.
use Rattle.std.proofs.Common.{◌≡◌, ℕ, zero, suc, ◌+◌, ◌<◌, List, [], ◌∷◌, drop, Option, Some, None, refl, sym, ap, ap₂, subst, ◌∙◌, arith}
use Rattle.std.specs.Prelude.{IsSome, slice_get, if◌then◌else◌}
use Rattle.std.proofs.lemmas.Option.{slice_get_within}
use Rattle.omf_finding.specs.Agrees.{HasFour}
use Rattle.omf_finding.specs.Fours.{four, four_at, four_closed}
use Rattle.omf_finding.specs.Run.{closed_byte}
use Rattle.omf_finding.specs.Inner.Shaping.{AreIntervals, IsInterval, IsRareOf, front, key_at}
use Rattle.omf_finding.specs.Inner.Walking.{byte_with}
use Rattle.omf_finding.specs.declared.patterning.Interval.{Interval}
use Rattle.omf_finding.specs.declared.patterning.PatternByte.{PatternByte}
use Rattle.omf_finding.specs.declared.shapes.Rare.{Rare}
use Rattle.omf_finding.proofs.FoundLaws.{get-drop}
use Rattle.omf_finding.proofs.RareLaws.{IsClosedAt, key-from}

-- ---- of a program

pub front-four : (xs : List ℕ) → front xs ≡ four (slice_get xs 0) (slice_get xs 1) (slice_get xs 2) (slice_get xs 3)
front-four [] = refl
front-four (a ∷ []) = refl
front-four (a ∷ b ∷ []) = refl
front-four (a ∷ b ∷ c ∷ []) = refl
front-four (a ∷ b ∷ c ∷ d ∷ xs) = refl

pub four-same : (o p q r s t u v : Option ℕ) → o ≡ s → p ≡ t → q ≡ u → r ≡ v → four o p q r ≡ four s t u v
four-same o p q r s t u v e f g h = ap (λ (z : Option ℕ). four z p q r) e ∙ ap (λ (z : Option ℕ). four s z q r) f ∙ ap (λ (z : Option ℕ). four s t z r) g ∙ ap (λ (z : Option ℕ). four s t u z) h

-- the four bytes at an offset are those at the front of what is from there on
pub front-at : (program : List ℕ) (at : ℕ) → front (drop at program) ≡ four_at program at
front-at program at =
    let zeroth : at + 0 ≡ at = omega arith in
    let rest = drop at program in
    front-four rest
    ∙ four-same (slice_get rest 0) (slice_get rest 1) (slice_get rest 2) (slice_get rest 3) (slice_get program at) (slice_get program (at + 1)) (slice_get program (at + 2)) (slice_get program (at + 3))
    (get-drop at 0 program ∙ ap (slice_get program) zeroth) (get-drop at 1 program) (get-drop at 2 program) (get-drop at 3 program)

-- ---- of a segment

module _ (byte : ℕ → Option PatternByte) (i : Interval) (is : IsInterval byte i) where
  -- a closed byte of an interval is one of its segment
  cell-closed : (at j v : ℕ) → IsClosedAt (drop at i.values.now) (drop at i.marks.now) j v → closed_byte (byte (i.first + at + j)) ≡ Some v
  cell-closed at j v c =
      let value : slice_get i.values.now (at + j) ≡ Some v = sym (get-drop at j i.values.now) ∙ c.value_is in
      let mark : slice_get i.marks.now (at + j) ≡ Some c.mark = sym (get-drop at j i.marks.now) ∙ c.mark_is in
      let low = slice_get_within i.values.now (at + j) v value in
      let known : byte (i.first + (at + j)) ≡ byte_with (Some v) (Some c.mark) = is.each (at + j) low ∙ ap₂ byte_with value mark in
      let closed : closed_byte (byte_with (Some v) (Some c.mark)) ≡ Some v = ap (λ t. if t then None else Some v) c.closed in
      let to : i.first + (at + j) ≡ i.first + at + j = omega arith in
      sym (ap (λ (n : ℕ). closed_byte (byte n)) to) ∙ ap closed_byte known ∙ closed

  -- four closed bytes of an interval are four of its segment
  pub key-closed : (at key : ℕ) → key_at i at ≡ Some key → four_closed byte (i.first + at) ≡ Some key
  key-closed at key e =
      let k = key-from (drop at i.values.now) (drop at i.marks.now) key e in
      let x = i.first + at in
      let zeroth : x + 0 ≡ x = omega arith in
      let one : closed_byte (byte x) ≡ Some k.a = sym (ap (λ (n : ℕ). closed_byte (byte n)) zeroth) ∙ cell-closed at 0 k.a k.are.first in
      four-same (closed_byte (byte x)) (closed_byte (byte (x + 1))) (closed_byte (byte (x + 2))) (closed_byte (byte (x + 3))) (Some k.a) (Some k.b) (Some k.c) (Some k.d) one (cell-closed at 1 k.b k.are.second)
      (cell-closed at 2 k.c k.are.third) (cell-closed at 3 k.d k.are.fourth)
      ∙ ap Some (sym k.key_is)

-- ---- of a segment that is searched for

all-some : (o p q r : Option ℕ) (key : ℕ) → four o p q r ≡ Some key → IsSome o × IsSome p × IsSome q × IsSome r
all-some None p q r key e = absurd cc
all-some (Some a) None q r key e = absurd cc
all-some (Some a) (Some b) None r key e = absurd cc
all-some (Some a) (Some b) (Some c) None key e = absurd cc
all-some (Some a) (Some b) (Some c) (Some d) key e = (refl, refl, refl, refl)

pub has-four : (byte : ℕ → Option PatternByte) (x key : ℕ) → four_closed byte x ≡ Some key → HasFour byte
has-four byte x key e = record { x = x; each = each }
  where
    some : IsSome (closed_byte (byte x)) × IsSome (closed_byte (byte (x + 1))) × IsSome (closed_byte (byte (x + 2))) × IsSome (closed_byte (byte (x + 3)))
    some = all-some (closed_byte (byte x)) (closed_byte (byte (x + 1))) (closed_byte (byte (x + 2))) (closed_byte (byte (x + 3))) key e

    each : (i : ℕ) → i < 4 → IsSome (closed_byte (byte (x + i)))
    each zero low = subst (λ (n : ℕ). IsSome (closed_byte (byte n))) (let z : x ≡ x + zero = omega arith in z) some.0
    each (suc zero) low = some.1
    each (suc (suc zero)) low = some.2
    each (suc (suc (suc zero))) low = some.3
    each (suc (suc (suc (suc i)))) low = absurd (omega (arith, low))

pub rare-four : (byte : ℕ → Option PatternByte) (is : List Interval) → AreIntervals byte is → (r : Rare) → IsRareOf is r → HasFour byte
rare-four byte is are r rare = has-four byte (rare.0.first + rare.2.0) r.key (key-closed byte rare.0 (are.each rare.0 rare.1) rare.2.0 r.key rare.2.1.key)
