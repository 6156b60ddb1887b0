-- A plain reference without threads is plain as itself after any subrecords, and can be written.
use Rattle.std.proofs.Common.{◌≡◌, ℕ, ◌+◌, ◌*◌, ◌^◌, ◌<◌, ◌≤◌, List, [], ◌++◌, Bool, true, false, cond, Option, Some, None, refl, sym, ◌∙◌, ap, ap₂, subst, arith}
use Rattle.std.specs.Prelude.{◌==◌, ◌&&◌, ◌||◌, not, nat_lt, option_map, unwrap_or, ⊤}
use Rattle.std.proofs.lemmas.Bool.{cond-false}
use Rattle.omf_frame.specs.Bytes.{bits, has_bit}
use Rattle.omf_frame.specs.declared.fault.Reason.{Reason}
use Rattle.omf_frame.specs.declared.fault.Reason.TheVariants as reason
use Rattle.omf_records.specs.Inner.Names.{wrong_head, has_no_displacement}
use Rattle.omf_records.specs.Values.{At, Subrecord, nowhere, width, frame_by_thread, frame_bits, target_by_thread, target_bits}
use Rattle.omf_records.specs.Methods.{kind_number, frame_number}
use Rattle.omf_records.specs.Entries.{unless, is_frame_method}
use Rattle.omf_records.specs.Valued.{IsThere, IsIndexValue, IsReferenceValue, IsSubrecordValue}
use Rattle.omf_check.specs.Inner.Names.{frame_from, target_from}
use Rattle.omf_check.specs.Threads.{T0, PlainReference, plain, setting, frame_of, target_of}
use Rattle.omf_records.specs.declared.method.Kind.{Kind}
use Rattle.omf_check.specs.declared.method.FrameMethod.{FrameMethod}
use Rattle.omf_check.specs.declared.method.TargetMethod.{TargetMethod}
use Rattle.omf_check.specs.declared.method.FrameMethod.TheVariants.{Of, Location as F4, Target as F5}
use Rattle.omf_records.specs.declared.method.Kind.TheVariants as kinds
use Rattle.omf_reloc.specs.Plain.{PlainFixup}
use Rattle.omf_canon.specs.Inner.Names.{fix_byte, unthreaded_fixup}
use Rattle.omf_canon.specs.Unthreaded.{code_of, frame_index, unthreaded}

-- ---- the bits of the fix data byte

abbrev pub frame_code : FrameMethod → ℕ
frame_code f = frame_number (code_of f)

abbrev pub target_code : TargetMethod → ℕ
target_code t = kind_number t.kind

abbrev pub target_index : TargetMethod → Option (At ℕ)
target_index t = Some (nowhere t.index)

small-kind : (k : Kind) → kind_number k < 3
small-kind kinds.Segment = omega arith
small-kind kinds.Group = omega arith
small-kind kinds.External = omega arith

small-frame-code : (f : FrameMethod) → frame_code f < 8
small-frame-code (Of t) = let h = small-kind t.kind in omega (arith, h)
small-frame-code F4 = omega arith
small-frame-code F5 = omega arith

small-target-code : (t : TargetMethod) → target_code t < 3
small-target-code t = small-kind t.kind

-- The bits of 16 * a + b + c, where c is bit 2.
record HasBits (a b : ℕ) (short : Bool) (n : ℕ) : Type 0 where
  no_frame_thread : frame_by_thread n ≡ false
  frame : frame_bits n ≡ a
  no_target_thread : target_by_thread n ≡ false
  target : target_bits n ≡ b
  short_bit : has_no_displacement n ≡ short
  byte : n < 256

clear : (n k : ℕ) → bits n k 1 ≡ 0 → has_bit n k ≡ false
clear n k e = ap (λ m. m == 1) e

set : (n k : ℕ) → bits n k 1 ≡ 1 → has_bit n k ≡ true
set n k e = ap (λ m. m == 1) e

has-bits : (a b : ℕ) (short : Bool) → a < 8 → b < 3 → HasBits a b short (16 * a + b + cond short 4 0)
has-bits a b true h k = record {
  no_frame_thread = clear (16 * a + b + 4) 7 (omega (arith, h, k));
  frame = omega (arith, h, k);
  no_target_thread = clear (16 * a + b + 4) 3 (omega (arith, h, k));
  target = omega (arith, h, k);
  short_bit = set (16 * a + b + 4) 2 (omega (arith, h, k));
  byte = omega (arith, h, k);
}
has-bits a b false h k = record {
  no_frame_thread = clear (16 * a + b + 0) 7 (omega (arith, h, k));
  frame = omega (arith, h, k);
  no_target_thread = clear (16 * a + b + 0) 3 (omega (arith, h, k));
  target = omega (arith, h, k);
  short_bit = clear (16 * a + b + 0) 2 (omega (arith, h, k));
  byte = omega (arith, h, k);
}

fix-bits : (short : Bool) (f : FrameMethod) (t : TargetMethod) → HasBits (frame_code f) (target_code t) short (fix_byte short f t)
fix-bits short f t = has-bits (frame_code f) (target_code t) short (small-frame-code f) (small-target-code t)

-- ---- plain as itself

frame-read : (f : FrameMethod) → frame_from (setting (frame_code f) (frame_index f)) ≡ f
frame-read (Of t) = read t.kind t.index
  where
    read : (k : Kind) (i : ℕ) → frame_from (setting (kind_number k) (Some (nowhere i))) ≡ Of (record { kind = k; index = i })
    read kinds.Segment i = refl
    read kinds.Group i = refl
    read kinds.External i = refl
frame-read F4 = refl
frame-read F5 = refl

target-read : (t : TargetMethod) → target_from (setting (target_code t) (target_index t)) ≡ t
target-read t = read t.kind t.index
  where
    read : (k : Kind) (i : ℕ) → target_from (setting (kind_number k) (Some (nowhere i))) ≡ record { kind = k; index = i }
    read kinds.Segment i = refl
    read kinds.Group i = refl
    read kinds.External i = refl

module _ (earlier : List Subrecord) (short : Bool) (r : PlainReference) where
  abbrev fix : ℕ
  fix = fix_byte short r.frame r.target

  known : HasBits (frame_code r.frame) (target_code r.target) short fix
  known = fix-bits short r.frame r.target

  pub frame-again : frame_of earlier (unthreaded short r) ≡ Some r.frame
  frame-again =
      ap (option_map frame_from) (cond-false (frame_by_thread fix) _ _ known.no_frame_thread)
      ∙ ap (λ n. Some (frame_from (setting n (frame_index r.frame)))) known.frame
      ∙ ap (λ f. Some f) (frame-read r.frame)

  pub target-again : target_of earlier (unthreaded short r) ≡ Some r.target
  target-again =
      ap (option_map target_from) (cond-false (target_by_thread fix) _ _ known.no_target_thread)
      ∙ ap (λ n. Some (target_from (setting n (target_index r.target)))) known.target
      ∙ ap (λ t. Some t) (target-read r.target)

displacement-again : (short : Bool) (d : ℕ) → (short ≡ true → d ≡ 0) → unwrap_or (cond short None (Some d)) 0 ≡ d
displacement-again true d h = sym (h refl)
displacement-again false d h = refl

pub plain-again : (earlier : List Subrecord) (short : Bool) (r : PlainReference) → (short ≡ true → r.displacement ≡ 0) → plain earlier (unthreaded short r) ≡ r
plain-again earlier short r h =
    let made : Option FrameMethod → Option TargetMethod → ℕ → PlainReference = λ f t d. record { frame = unwrap_or f F5; target = unwrap_or t (T0 0); displacement = d } in
    let d = unwrap_or (cond short None (Some r.displacement)) 0 in
    ap₂ (λ f t. made f t d) (frame-again earlier short r) (target-again earlier short r)
    ∙ ap (made (Some r.frame) (Some r.target)) (displacement-again short r.displacement h)

-- which plain references can be written
abbrev pub IsSmallFrame : FrameMethod → Type 0
IsSmallFrame (Of t) = t.index < 128 * 256
IsSmallFrame F4 = ⊤
IsSmallFrame F5 = ⊤

abbrev pub IsSmallTarget : TargetMethod → Type 0
IsSmallTarget t = t.index < 128 * 256

pub record IsPlainValue (kind : ℕ) (r : PlainReference) : Type 0 where
  pub small_frame : IsSmallFrame r.frame
  pub small_target : IsSmallTarget r.target
  pub small_displacement : r.displacement < 256 ^ width kind

pub record IsPlainFixupValue (kind : ℕ) (f : PlainFixup) : Type 0 where
  pub high : 32768 ≤ f.locat
  pub low : f.locat < 65536
  pub head : wrong_head f.locat ≡ []
  pub reference : IsPlainValue kind f.reference

-- ---- they can be written

low-kind : (k : Kind) → nat_lt (kind_number k) 3 ≡ true
low-kind kinds.Segment = refl
low-kind kinds.Group = refl
low-kind kinds.External = refl

kind-is-method : (k : Kind) → is_frame_method (kind_number k) ≡ true
kind-is-method kinds.Segment = refl
kind-is-method kinds.Group = refl
kind-is-method kinds.External = refl

frame-is-method : (f : FrameMethod) → is_frame_method (frame_code f) ≡ true
frame-is-method (Of t) = kind-is-method t.kind
frame-is-method F4 = refl
frame-is-method F5 = refl

target-is-method : (t : TargetMethod) → nat_lt (target_code t) 3 ≡ true
target-is-method t = low-kind t.kind

target-there : (t : TargetMethod) → IsSmallTarget t → IsThere IsIndexValue (nat_lt (target_code t) 3) (target_index t)
target-there t h = subst (λ b. IsThere IsIndexValue b (target_index t)) (sym (low-kind t.kind)) h

frame-there : (f : FrameMethod) → IsSmallFrame f → IsThere IsIndexValue (nat_lt (frame_code f) 3) (frame_index f)
frame-there (Of t) h = target-there t h
frame-there F4 h = tt
frame-there F5 h = tt

displacement-there : (kind : ℕ) (short : Bool) (d : ℕ) → d < 256 ^ width kind → IsThere (λ n. n < 256 ^ width kind) (not short) (cond short None (Some d))
displacement-there kind true d h = tt
displacement-there kind false d h = h

-- what is wrong with a fix data byte, by its bits
abbrev wrong_bits : Bool → ℕ → Bool → ℕ → List Reason
wrong_bits by_frame frame by_target target = unless (by_frame || is_frame_method frame) reason.FrameMethod ++ unless (by_target || nat_lt target 3) reason.TargetMethod

value-by : (kind : ℕ) (short : Bool) (f : FrameMethod) (t : TargetMethod) (d : ℕ) (n : ℕ) → HasBits (frame_code f) (target_code t) short n → IsSmallFrame f → IsSmallTarget t → d < 256 ^ width kind
    → IsReferenceValue kind (record { fix = nowhere n; frame = frame_index f; target = target_index t; displacement = cond short None (Some d) })
value-by kind short f t d n b hf ht hd = record {
  fix = b.byte;
  methods =
      ap₂ (λ x y. wrong_bits x y (target_by_thread n) (target_bits n)) b.no_frame_thread b.frame
      ∙ ap₂ (λ x y. wrong_bits false (frame_code f) x y) b.no_target_thread b.target
      ∙ ap₂ (λ x y. unless x reason.FrameMethod ++ unless y reason.TargetMethod) (frame-is-method f) (target-is-method t);
  frame = subst (λ x. IsThere IsIndexValue x (frame_index f)) (sym (ap₂ (λ x y. not x && nat_lt y 3) b.no_frame_thread b.frame)) (frame-there f hf);
  target = subst (λ x. IsThere IsIndexValue x (target_index t)) (sym (ap₂ (λ x y. not x && nat_lt y 3) b.no_target_thread b.target)) (target-there t ht);
  displacement = subst (λ x. IsThere (λ v. v < 256 ^ width kind) (not x) (cond short None (Some d))) (sym b.short_bit) (displacement-there kind short d hd);
}

pub value-again : (kind : ℕ) (short : Bool) (r : PlainReference) → IsPlainValue kind r → IsReferenceValue kind (unthreaded short r)
value-again kind short r h = value-by kind short r.frame r.target r.displacement (fix_byte short r.frame r.target) (fix-bits short r.frame r.target) h.small_frame h.small_target h.small_displacement

pub value-fixup : (kind : ℕ) (f : PlainFixup) → IsPlainFixupValue kind f → IsSubrecordValue kind (unthreaded_fixup f)
value-fixup kind f h = record { high = h.high; low = h.low; head = h.head; reference = value-again kind (f.reference.displacement == 0) f.reference h.reference }
