-- Outcomes of fixups and of starts, from what the steps of the code return.
use Rattle.std.proofs.Common.{◌≡◌, ℕ, ◌+◌, List, [], ◌∷◌, Bool, true, false, cond, Option, refl, sym, ◌∙◌, ap, ap₂, subst}
use Rattle.std.specs.Prelude.{slice_get, option_and_then, Some, None, Result, Ok, Err}
use Rattle.omf_frame.specs.declared.kinds.Width.{Width}
use Rattle.omf_frame.specs.declared.kinds.Width.TheVariants.{Bits16, Bits32}
use Rattle.std.proofs.lemmas.Option.{none-some, same_Some}
use Rattle.omf_reloc.specs.declared.fault.Cause.{Cause}
use Rattle.omf_reloc.specs.declared.fault.Cause.TheVariants as cause
use Rattle.omf_placement.specs.declared.frame.Frame.{Frame}
use Rattle.omf_placement.specs.declared.frame.Placed.{Placed}
use Rattle.omf_frame.specs.Bytes.{difference}
use Rattle.omf_records.specs.Inner.Names.{offset_bits, self_relative_bits, width_bits}
use Rattle.omf_records.specs.Values.{location_type, location_offset, is_segment_relative}
use Rattle.omf_reloc.specs.Plain.{PlainFixup}
use Rattle.omf_reloc.specs.Inner.Widths.{fixupp_type, modend_type, number_bits}
use Rattle.omf_reloc.specs.Offsets.{offsets, in_frame, from_location, additions_in, in_bits}
use Rattle.omf_reloc.specs.Inner.Names.{first_or}
use Rattle.omf_reloc.specs.Inner.Names.{map_ok}

-- the width of a displacement, by the type of its record
fixupp_width : (width : Width) → number_bits width ≡ width_bits (fixupp_type width)
fixupp_width Bits16 = refl
fixupp_width Bits32 = refl

pub modend_width : (width : Width) → number_bits width ≡ width_bits (modend_type width)
modend_width Bits16 = refl
modend_width Bits32 = refl

cond_true : {A : Type 0} (b : Bool) (x y : A) → b ≡ true → x ≡ cond b x y
cond_true true x y h = refl
cond_true false x y h = absurd cc

cond_false : {A : Type 0} (b : Bool) (x y : A) → b ≡ false → y ≡ cond b x y
cond_false true x y h = absurd cc
cond_false false x y h = refl

module _ (here : Option Placed) (offset : ℕ) (wide reach : Width) (f : PlainFixup) (t : ℕ) (frame : Frame) (address : ℕ) (os : List ℕ) (ht : t ≡ location_type f.locat)
    (ho : os ≡ offsets (number_bits reach) (number_bits wide) address f.reference.displacement frame.base) where
  abbrev kind : ℕ
  kind = location_type f.locat

  pub segment_relative : is_segment_relative f.locat ≡ true → number_bits reach ≡ offset_bits t → in_frame t frame.selector os ≡ additions_in here offset (fixupp_type wide, f) frame address
  segment_relative h hw =
      let e : os ≡ offsets (offset_bits kind) (width_bits (fixupp_type wide)) address f.reference.displacement frame.base = cc (fixupp_width wide) in
      ap (λ n. in_frame n frame.selector os) ht ∙ ap (in_frame kind frame.selector) e ∙ cond_true (is_segment_relative f.locat) _ _ h

  pub self_relative : is_segment_relative f.locat ≡ false → number_bits reach ≡ self_relative_bits t
      → (l : Option ℕ) → l ≡ in_bits (number_bits reach) (option_and_then (λ p. difference (p.address + offset + location_offset f.locat) frame.base) here)
      → from_location t os l ≡ additions_in here offset (fixupp_type wide, f) frame address
  self_relative h hw l hl =
      let e : os ≡ offsets (self_relative_bits kind) (width_bits (fixupp_type wide)) address f.reference.displacement frame.base = cc (fixupp_width wide) in
      let b : number_bits reach ≡ self_relative_bits kind = cc in
      let p : l ≡ in_bits (self_relative_bits kind) (option_and_then (λ p. difference (p.address + offset + location_offset f.locat) frame.base) here)
      = hl ∙ ap (λ w. in_bits w (option_and_then (λ p. difference (p.address + offset + location_offset f.locat) frame.base) here)) b in
      ap (λ n. from_location n os l) ht ∙ ap₂ (λ xs o. from_location kind xs o) e p ∙ cond_false (is_segment_relative f.locat) _ _ h

-- the first offset of a start, or the cause
abbrev IsFirst : ℕ → List ℕ → Result (ℕ × ℕ) Cause → Type 0
IsFirst selector os r = r ≡ map_ok (λ x. (selector, x)) (first_or cause.Target os)

pub first_found : (selector : ℕ) (os : List ℕ) (o : ℕ) → slice_get os 0 ≡ Some o → IsFirst selector os (Ok (selector, o))
first_found selector [] o h = absurd (none-some o h)
first_found selector (x ∷ os) o h = subst (λ y. IsFirst selector (x ∷ os) (Ok (selector, y))) (same_Some x o h) refl

pub none_found : (selector : ℕ) (os : List ℕ) → slice_get os 0 ≡ None → IsFirst selector os (Err cause.Target)
none_found selector [] h = refl
none_found selector (x ∷ os) h = absurd (none-some x (sym h))

-- The place of its own segment matters only to a self-relative fixup.
pub own_place_alone : (a b : Option Placed) (offset : ℕ) (f : ℕ × PlainFixup) (frame : Frame) (address : ℕ) → (is_segment_relative f.1.locat ≡ false → a ≡ b)
    → additions_in a offset f frame address ≡ additions_in b offset f frame address
own_place_alone a b offset f frame address same = by (is_segment_relative f.1.locat) refl
  where
    by : (r : Bool) → is_segment_relative f.1.locat ≡ r → additions_in a offset f frame address ≡ additions_in b offset f frame address
    by true h = sym (cond_true (is_segment_relative f.1.locat) _ _ h) ∙ cond_true (is_segment_relative f.1.locat) _ _ h
    by false h = ap (λ here. additions_in here offset f frame address) (same h)
