-- The plain references of typed records can be written: each index that a thread gives was read from one.
use Rattle.std.proofs.Common.{ℕ, ◌*◌, ◌^◌, ◌<◌, List, [], ◌∷◌, ◌++◌, sym, subst, Bool, true, false, cond, Option, Some, None, arith, append_assoc, append-nil}
use Rattle.std.specs.Prelude.{map, filter_map, option_map, unwrap_or, All, not, nat_lt, ◌==◌, ◌&&◌, ⊤}
use Rattle.std.specs.List.{AllByRecursion as Each, cons_option, last_or}
use Rattle.std.proofs.lemmas.List.Elements.{filter_map-append, All-head, All-tail}
use Rattle.omf_frame.specs.Bytes.{with_before}
use Rattle.omf_records.specs.Inner.Names.{has_frame_datum, has_target_datum, thread_number, frame_thread, has_no_displacement}
use Rattle.omf_records.specs.Values.{At, Reference, Subrecord, Thread, Fixup, width, is_wide, thread_is_frame, thread_method, frame_by_thread, frame_bits, target_by_thread, target_bits}
use Rattle.omf_records.specs.Valued.{IsThere, IsIndexValue, IsReferenceValue, IsSubrecordValue}
use Rattle.omf_check.specs.Inner.Names.{frame_from, target_from}
use Rattle.omf_check.specs.Threads.{T0, Setting, setting, setting_of, same, frame_setting, target_setting, frame_by, plain}
use Rattle.omf_records.specs.declared.method.FrameCode.{FrameCode}
use Rattle.omf_check.specs.declared.method.FrameMethod.TheVariants.{Target as F5}
use Rattle.omf_records.specs.Methods.{frame_code}
use Rattle.omf_records.specs.declared.method.FrameCode.TheVariants as codes
use Rattle.omf_reloc.specs.Plain.{plain_fixup}
use Rattle.omf_canon.proofs.UnthreadedLaws.{IsSmallFrame, IsSmallTarget, IsPlainValue, IsPlainFixupValue}

pub each-append : {A : Type 0} (P : A → Type 0) (xs ys : List A) → Each P xs → Each P ys → Each P (xs ++ ys)
each-append P [] ys h k = k
each-append P (x ∷ xs) ys h k = (h.0, each-append P xs ys h.1 k)

pub each-front : {A : Type 0} (P : A → Type 0) (xs ys : List A) → Each P (xs ++ ys) → Each P xs
each-front P [] ys h = tt
each-front P (x ∷ xs) ys h = (h.0, each-front P xs ys h.1)

pub each-back : {A : Type 0} (P : A → Type 0) (xs ys : List A) → Each P (xs ++ ys) → Each P ys
each-back P [] ys h = h
each-back P (x ∷ xs) ys h = each-back P xs ys h.1

abbrev IsSmall : Setting → Type 0
IsSmall s = unwrap_or s.datum 0 < 128 * 256

abbrev IsSmallIf : Option Setting → Type 0
IsSmallIf None = ⊤
IsSmallIf (Some s) = IsSmall s

small-setting : (m : ℕ) (b : Bool) (o : Option (At ℕ)) → IsThere IsIndexValue b o → IsSmall (setting m o)
small-setting m true None h = absurd h
small-setting m true (Some a) h = h
small-setting m false None h = omega arith
small-setting m false (Some a) h = absurd h

-- The settings of these subrecords are small.
abbrev pub AreSmall : List Subrecord → Type 0
AreSmall E = (b : Bool) (k : ℕ) → Each IsSmall (filter_map (setting_of b k) E)

some_or_none : (t : Bool) (s : Setting) → IsSmall s → Each IsSmall (cons_option (cond t (Some s) None) [])
some_or_none true s h = (h, tt)
some_or_none false s h = tt

small-one : (kind : ℕ) (s : Subrecord) → IsSubrecordValue kind s → (b : Bool) (k : ℕ) → Each IsSmall (cons_option (setting_of b k s) [])
small-one kind (Thread byte datum) h b k =
    some_or_none (same b (thread_is_frame byte) && (thread_number byte == k)) (setting (thread_method byte) datum) (small-setting (thread_method byte) (nat_lt (thread_method byte) 3) datum h.index)
small-one kind (Fixup locat r) h b k = tt

pub small-push : (kind : ℕ) (E : List Subrecord) (s : Subrecord) → AreSmall E → IsSubrecordValue kind s → AreSmall (E ++ s ∷ [])
small-push kind E s e h b k = subst (Each IsSmall) (sym (filter_map-append (setting_of b k) E (s ∷ []))) (each-append IsSmall (filter_map (setting_of b k) E) (cons_option (setting_of b k s) []) (e b k) (small-one kind s h b k))

pub small-all : (kind : ℕ) (E : List Subrecord) (subs : List (At Subrecord)) → AreSmall E → All (λ s. IsSubrecordValue kind s.item) subs → AreSmall (E ++ map (λ s. s.item) subs)
small-all kind E [] e h = subst AreSmall (sym (append-nil E)) e
small-all kind E (s ∷ subs) e h =
    subst AreSmall (append_assoc E (s.item ∷ []) (map (λ q. q.item) subs))
    (small-all kind (E ++ s.item ∷ []) subs (small-push kind E s.item e (All-head (λ q. IsSubrecordValue kind q.item) s subs h)) (All-tail (λ q. IsSubrecordValue kind q.item) s subs h))

small-last : (o : Option Setting) (xs : List Setting) → IsSmallIf o → Each IsSmall xs → IsSmallIf (last_or o xs)
small-last o [] h k = h
small-last o (x ∷ xs) h k = small-last (Some x) xs k.0 k.1

either_way : {A : Type 0} (P : A → Type 0) (b : Bool) (x y : A) → P x → P y → P (cond b x y)
either_way P true x y h k = h
either_way P false x y h k = k

small-frame_from : (s : Setting) → IsSmall s → IsSmallFrame (frame_from s)
small-frame_from s h = by (frame_code s.method) (unwrap_or s.datum 0) h
  where
    by : (c : FrameCode) (i : ℕ) → i < 128 * 256 → IsSmallFrame (frame_by c i)
    by (codes.Of k) i h = h
    by codes.Location i h = tt
    by codes.Target i h = tt

small-target_from : (s : Setting) → IsSmall s → IsSmallTarget (target_from s)
small-target_from s h = h

small-frame : (o : Option Setting) → IsSmallIf o → IsSmallFrame (unwrap_or (option_map frame_from o) F5)
small-frame None h = tt
small-frame (Some s) h = small-frame_from s h

small-target : (o : Option Setting) → IsSmallIf o → IsSmallTarget (unwrap_or (option_map target_from o) (T0 0))
small-target None h = omega arith
small-target (Some s) h = small-target_from s h

positive : (wide : Bool) → 0 < 256 ^ cond wide 4 2
positive true = omega arith
positive false = omega arith

small-displacement : (kind : ℕ) (b : Bool) (o : Option ℕ) → IsThere (λ d. d < 256 ^ width kind) b o → unwrap_or o 0 < 256 ^ width kind
small-displacement kind true None h = absurd h
small-displacement kind true (Some d) h = h
small-displacement kind false None h = positive (is_wide kind)
small-displacement kind false (Some d) h = absurd h

pub plain-value : (kind : ℕ) (earlier : List Subrecord) (r : Reference) → AreSmall earlier → IsReferenceValue kind r → IsPlainValue kind (plain earlier r)
plain-value kind earlier r e h = record {
  small_frame = small-frame (frame_setting earlier r) (either_way IsSmallIf (frame_by_thread r.fix.item) _ _
      (small-last None (filter_map (setting_of true (frame_thread r.fix.item)) earlier) tt (e true (frame_thread r.fix.item)))
      (small-setting (frame_bits r.fix.item) (has_frame_datum r.fix.item) r.frame h.frame));
  small_target = small-target (target_setting earlier r) (either_way IsSmallIf (target_by_thread r.fix.item) _ _
      (small-last None (filter_map (setting_of false (target_bits r.fix.item)) earlier) tt (e false (target_bits r.fix.item)))
      (small-setting (target_bits r.fix.item) (has_target_datum r.fix.item) r.target h.target));
  small_displacement = small-displacement kind (not (has_no_displacement r.fix.item)) r.displacement h.displacement;
}

fixup-value : (kind : ℕ) (earlier : List Subrecord) (s : Subrecord) → AreSmall earlier → IsSubrecordValue kind s → Each (IsPlainFixupValue kind) (plain_fixup earlier s)
fixup-value kind earlier (Thread byte datum) e h = tt
fixup-value kind earlier (Fixup locat r) e h = (record { high = h.high; low = h.low; head = h.head; reference = plain-value kind earlier r e h.reference }, tt)

pub fixups-value : (kind : ℕ) (earlier : List Subrecord) (subs : List (At Subrecord)) → AreSmall earlier → All (λ s. IsSubrecordValue kind s.item) subs
    → Each (IsPlainFixupValue kind) (with_before plain_fixup earlier (map (λ s. s.item) subs))
fixups-value kind earlier [] e h = tt
fixups-value kind earlier (s ∷ subs) e h =
    let one = All-head (λ q. IsSubrecordValue kind q.item) s subs h in
    each-append (IsPlainFixupValue kind) (plain_fixup earlier s.item) _ (fixup-value kind earlier s.item e one)
    (fixups-value kind (earlier ++ s.item ∷ []) subs (small-push kind earlier s.item e one) (All-tail (λ q. IsSubrecordValue kind q.item) s subs h))
