-- A reference that names no thread and has no displacement of 0 has the bytes that it would have without threads.
use Rattle.std.proofs.Common.{◌≡◌, ℕ, zero, suc, ◌+◌, ◌*◌, ◌/◌, ◌%◌, ◌^◌, ◌<◌, inl, inr, List, [], ◌∷◌, ◌++◌, Bool, true, false, cond, Option, Some, None, refl, sym, ◌∙◌, ap, ap₂, subst, arith, append-nil, Result}
use Rattle.std.specs.Prelude.{◌==◌, ◌&&◌, ◌||◌, not, nat_lt, unwrap_or, OnOk, ⊤}
use Rattle.std.proofs.lemmas.Bool.{cond-false, or_cases, eqb-true, eqb-false, ltb-true, cases_Bool}
use Rattle.byteorder.specs.Endian.{little_bytes}
use Rattle.omf_frame.specs.Bytes.{bits, has_bit}
use Rattle.omf_records.specs.Inner.Names.{has_no_displacement}
use Rattle.omf_records.specs.Inner.Direct.{is_zero, is_direct, IsDirect}
use Rattle.omf_records.specs.Inner.Unread.{Pending}
use Rattle.omf_records.specs.Values.{At, Reference, Subrecord, Thread, Fixup, width, frame_by_thread, frame_bits, target_by_thread, target_bits}
use Rattle.omf_records.specs.Entries.{is_frame_method}
use Rattle.omf_records.specs.Shortest.{option_bytes, datum_bytes, subrecord_bytes}
use Rattle.omf_records.proofs.DirectLaws.{no-reason}
use Rattle.omf_records.specs.Valued.{IsThere, IsIndexValue, IsReferenceValue, IsSubrecordValue}
use Rattle.omf_check.specs.Inner.Names.{frame_from, target_from}
use Rattle.omf_check.specs.Threads.{T0, setting}
use Rattle.omf_check.specs.declared.method.FrameMethod.{FrameMethod}
use Rattle.omf_check.specs.declared.method.TargetMethod.{TargetMethod}
use Rattle.omf_check.specs.declared.method.FrameMethod.TheVariants.{Target as F5}
use Rattle.omf_check.specs.declared.threads.Threads.{Threads}
use Rattle.omf_check.specs.Inner.Judging.{frame_cell, target_cell}
use Rattle.omf_check.specs.Inner.Kept.{set_thread}
use Rattle.omf_reloc.specs.Plain.{Fixed}
use Rattle.omf_reloc.specs.Inner.Walking.{plain_fixup_by}
use Rattle.omf_canon.specs.Inner.Names.{fix_byte}
use Rattle.omf_canon.specs.PlainBytes.{fixup_bytes}
use Rattle.omf_canon.specs.Unthreaded.{frame_index}
use Rattle.omf_canon.proofs.UnthreadedLaws.{frame_code, target_code, target_index}
use Rattle.omf_canon.specs.Inner.Writing.{Held, closed_by, held_with, subrecord_piece, ArePut, IsJoined}
use Rattle.omf_canon.proofs.TakingLaws.{put-one, on-both, IsTaken, take-value, take-next}

-- ---- methods that have numbers

abbrev Frame : Option (At ℕ) → ℕ → Type 0
Frame o m = IsThere IsIndexValue (nat_lt m 3) o → (frame_code (frame_from (setting m o)) ≡ m) × (option_bytes datum_bytes (frame_index (frame_from (setting m o))) ≡ option_bytes datum_bytes o)

same-frame : (m : ℕ) (o : Option (At ℕ)) → is_frame_method m ≡ true → Frame o m
same-frame zero (Some a) e h = (refl, refl)
same-frame (suc zero) (Some a) e h = (refl, refl)
same-frame (suc (suc zero)) (Some a) e h = (refl, refl)
same-frame (suc (suc (suc (suc zero)))) None e h = (refl, refl)
same-frame (suc (suc (suc (suc (suc zero))))) None e h = (refl, refl)
same-frame zero None e h = absurd h
same-frame (suc zero) None e h = absurd h
same-frame (suc (suc zero)) None e h = absurd h
same-frame (suc (suc (suc zero))) o e h = absurd cc
same-frame (suc (suc (suc (suc zero)))) (Some a) e h = absurd h
same-frame (suc (suc (suc (suc (suc zero))))) (Some a) e h = absurd h
same-frame (suc (suc (suc (suc (suc (suc m)))))) o e h = absurd (past (suc (suc (suc (suc (suc (suc m)))))) (omega arith) e)
  where
    past : (n : ℕ) → 5 < n → is_frame_method n ≡ true → ⊥
    past n l e = elim (or_cases (nat_lt n 3 || (n == 4)) (n == 5) e) [
      | inl r ↦ elim (or_cases (nat_lt n 3) (n == 4) r) [ inl q ↦ omega (arith, l, ltb-true n 3 q) | inr q ↦ omega (arith, l, eqb-true n 4 q) ]
      | inr q ↦ omega (arith, l, eqb-true n 5 q)
    ]

abbrev Target : Option (At ℕ) → ℕ → Type 0
Target o m = IsThere IsIndexValue (nat_lt m 3) o → (target_code (target_from (setting m o)) ≡ m) × (option_bytes datum_bytes (target_index (target_from (setting m o))) ≡ option_bytes datum_bytes o)

same-target : (m : ℕ) (o : Option (At ℕ)) → nat_lt m 3 ≡ true → Target o m
same-target zero (Some a) e h = (refl, refl)
same-target (suc zero) (Some a) e h = (refl, refl)
same-target (suc (suc zero)) (Some a) e h = (refl, refl)
same-target zero None e h = absurd h
same-target (suc zero) None e h = absurd h
same-target (suc (suc zero)) None e h = absurd h
same-target (suc (suc (suc m))) o e h = absurd (omega (arith, ltb-true (suc (suc (suc m))) 3 e))

-- ---- the displacement

-- A displacement that is not 0 is there exactly where no bit says that none is.
same-displacement : (P : ℕ → Type 0) (f : ℕ → List ℕ) (o : Option ℕ) (none : Bool) → IsThere P (not none) o → is_zero o ≡ false
    → ((unwrap_or o 0 == 0) ≡ none) × (option_bytes f (cond (unwrap_or o 0 == 0) None (Some (unwrap_or o 0))) ≡ option_bytes f o)
same-displacement P f None true h z = (refl, refl)
same-displacement P f None false h z = absurd h
same-displacement P f (Some d) true h z = absurd h
same-displacement P f (Some d) false h z = (z, ap (λ b. option_bytes f (cond b None (Some d))) z)

-- ---- the fix data byte

clear : (n k : ℕ) → has_bit n k ≡ false → bits n k 1 ≡ 1 → ⊥
clear n k e s = absurd (let q : has_bit n k ≡ true = ap (λ m. m == 1) s in cc)

same-byte : (n : ℕ) → n < 256 → frame_by_thread n ≡ false → target_by_thread n ≡ false → 16 * frame_bits n + target_bits n + cond (has_no_displacement n) 4 0 ≡ n
same-byte n h f t =
    elim (cases_Bool (has_no_displacement n)) [
      | inl p ↦ ap (λ b. 16 * frame_bits n + target_bits n + cond b 4 0) p ∙ set n h (eqb-false (bits n 7 1) 1 f) (eqb-false (bits n 3 1) 1 t) (eqb-true (bits n 2 1) 1 p)
      | inr p ↦ ap (λ b. 16 * frame_bits n + target_bits n + cond b 4 0) p ∙ unset n h (eqb-false (bits n 7 1) 1 f) (eqb-false (bits n 3 1) 1 t) (eqb-false (bits n 2 1) 1 p)
    ]
  where
    set : (n : ℕ) → n < 256 → (bits n 7 1 ≡ 1 → ⊥) → (bits n 3 1 ≡ 1 → ⊥) → bits n 2 1 ≡ 1 → 16 * frame_bits n + target_bits n + 4 ≡ n
    set n h a b c = omega (arith, h, a, b, c)

    unset : (n : ℕ) → n < 256 → (bits n 7 1 ≡ 1 → ⊥) → (bits n 3 1 ≡ 1 → ⊥) → (bits n 2 1 ≡ 1 → ⊥) → 16 * frame_bits n + target_bits n + 0 ≡ n
    unset n h a b c = omega (arith, h, a, b, c)

-- ---- the whole

three : (a b c : Bool) → (not a && (not b && not c)) ≡ true → (a ≡ false) × (b ≡ false) × (c ≡ false)
three true b c e = absurd cc
three false true c e = absurd cc
three false false true e = absurd cc
three false false false e = (refl, refl, refl)

pub direct-bytes : (threads : Threads) (kind locat : ℕ) (r : Reference) → IsReferenceValue kind r → is_direct r ≡ true → subrecord_bytes kind (Fixup locat r) ≡ fixup_bytes kind (plain_fixup_by threads locat r)
direct-bytes threads kind locat r v e =
    let n = r.fix.item in
    let q = three (frame_by_thread n) (target_by_thread n) (is_zero r.displacement) e in
    let methods = no-reason (frame_by_thread n || is_frame_method (frame_bits n)) (target_by_thread n || nat_lt (target_bits n) 3) v.methods in
    let F = subst (λ b. (b || is_frame_method (frame_bits n)) ≡ true) q.0 methods.0 in
    let T = subst (λ b. (b || nat_lt (target_bits n) 3) ≡ true) q.1 methods.1 in
    let frame = frame_from (setting (frame_bits n) r.frame) in
    let target = target_from (setting (target_bits n) r.target) in
    let d = unwrap_or r.displacement 0 in
    let a = same-frame (frame_bits n) r.frame F (subst (λ b. IsThere IsIndexValue (not b && nat_lt (frame_bits n) 3) r.frame) q.0 v.frame) in
    let b = same-target (target_bits n) r.target T (subst (λ b. IsThere IsIndexValue (not b && nat_lt (target_bits n) 3) r.target) q.1 v.target) in
    let c = same-displacement (λ x. x < 256 ^ width kind) (little_bytes (width kind)) r.displacement (has_no_displacement n) v.displacement q.2 in
    let frame_is : unwrap_or (frame_cell threads r) F5 ≡ frame =
    ap (λ s. unwrap_or s F5) (cond-false (frame_by_thread n) _ _ q.0) in
    let target_is : unwrap_or (target_cell threads r) (T0 0) ≡ target =
    ap (λ s. unwrap_or s (T0 0)) (cond-false (target_by_thread n) _ _ q.1) in
    let bytes : FrameMethod → TargetMethod → List ℕ =
    λ f t. locat / 256 ∷ locat % 256 ∷ fix_byte (d == 0) f t ∷ (option_bytes datum_bytes (frame_index f) ++ (option_bytes datum_bytes (target_index t) ++ option_bytes (little_bytes (width kind)) (cond (d == 0) None (Some d)))) in
    let byte : fix_byte (d == 0) frame target ≡ n =
    ap₂ (λ x y. 16 * x + y + cond (d == 0) 4 0) a.0 b.0 ∙ ap (λ s. 16 * frame_bits n + target_bits n + cond s 4 0) c.0 ∙ same-byte n v.fix q.0 q.1 in
    let rest : option_bytes datum_bytes (frame_index frame) ++ (option_bytes datum_bytes (target_index target) ++ option_bytes (little_bytes (width kind)) (cond (d == 0) None (Some d)))
    ≡ option_bytes datum_bytes r.frame ++ (option_bytes datum_bytes r.target ++ option_bytes (little_bytes (width kind)) r.displacement) =
    ap₂ (λ (x y : List ℕ). x ++ y) a.1 (ap₂ (λ (x y : List ℕ). x ++ y) b.1 c.1) in
    sym (ap₂ bytes frame_is target_is ∙ ap₂ (λ (x : ℕ) (y : List ℕ). locat / 256 ∷ locat % 256 ∷ x ∷ y) byte rest)

-- So it puts its own bytes.
pub direct-put : {E : Type 0} (threads : Threads) (kind locat : ℕ) (r : Reference) (s : Subrecord) → s ≡ Fixup locat r → IsSubrecordValue kind s → is_direct r ≡ true
    → (out new : List ℕ) (group then : Option Held) (res : Result ⊤ E)
    → OnOk res (new ≡ out ++ closed_by kind (subrecord_bytes kind (Fixup locat r)) group) → OnOk res (then ≡ held_with kind (subrecord_bytes kind (Fixup locat r)) group)
    → OnOk res (ArePut (subrecord_piece threads kind s) out group new then)
direct-put threads kind locat r s is v e out new group then res o g =
    let f = plain_fixup_by threads locat r in
    let value = subst (IsSubrecordValue kind) is v in
    let b = direct-bytes threads kind locat r value.reference e in
    subst (λ x. OnOk res (ArePut (subrecord_piece threads kind x) out group new then)) (sym is)
    (on-both res o g (λ p q. put-one (Fixed kind (f ∷ [])) out new group then (p ∙ ap (λ (x : List ℕ). out ++ closed_by kind x group) b) (q ∙ ap (λ (x : List ℕ). held_with kind x group) b)))

-- ---- one that joins the open FIXUPP

joined-put : (threads : Threads) (kind : ℕ) (s : Subrecord) → IsSubrecordValue kind s → IsDirect s → (out : List ℕ) (group then : Option Held)
    → closed_by kind (subrecord_bytes kind s) group ≡ [] → then ≡ held_with kind (subrecord_bytes kind s) group → ArePut (subrecord_piece threads kind s) out group out then
joined-put threads kind (Thread byte datum) v is out group then c h = absurd is
joined-put threads kind (Fixup locat r) v is out group then c h =
    let f = plain_fixup_by threads locat r in
    let b = direct-bytes threads kind locat r v.reference is in
    put-one (Fixed kind (f ∷ [])) out out group then
    (sym (ap (λ (x : List ℕ). out ++ x) (sym (ap (λ (x : List ℕ). closed_by kind x group) b) ∙ c) ∙ append-nil out))
    (h ∙ ap (λ (x : List ℕ). held_with kind x group) b)

sets-none : (threads : Threads) (s : Subrecord) → IsDirect s → set_thread threads s ≡ threads
sets-none threads (Thread byte datum) is = absurd is
sets-none threads (Fixup locat r) is = refl

module _ {kind : ℕ} {threads : Threads} {out : List ℕ} {group : Option Held} {whole : List (At Subrecord)} {now_threads : Threads} {now_out : List ℕ} {now_group : Option Held} (old : Pending Subrecord) (h : IsTaken kind threads out group whole now_threads now_out now_group old.items) where
  pub take-joined : {new : Pending Subrecord} {new_threads : Threads} {new_out : List ℕ} {new_group : Option Held}
      → IsJoined kind now_group new_group old new → new_out ≡ now_out → new_threads ≡ now_threads → IsTaken kind threads out group whole new_threads new_out new_group new.items
  take-joined {new} {new_threads} {new_out} {new_group} j o t =
      let value = take-value h j.next new.items j.gives.0 in
      let put = joined-put now_threads kind j.next.item value j.direct now_out now_group new_group j.closes j.holds in
      take-next h j.next new.items j.gives.0 new_threads new_out new_group
      (t ∙ sym (sets-none now_threads j.next.item j.direct))
      (subst (λ (x : List ℕ). ArePut (subrecord_piece now_threads kind j.next.item) now_out now_group x new_group) (sym o) put)

  -- where nothing joined, all is as it was
  pub take-kept : {new : Pending Subrecord} {new_threads : Threads} {new_out : List ℕ} {new_group : Option Held}
      → new ≡ old → new_group ≡ now_group → new_out ≡ now_out → new_threads ≡ now_threads → IsTaken kind threads out group whole new_threads new_out new_group new.items
  take-kept n g o t = rw (n, g, o, t) h
