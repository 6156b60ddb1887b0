-- A sound FIXUP has no fault and sets no thread, so a pass over the subrecords may go past it.
use Rattle.std.proofs.Common.{◌≡◌, ℕ, ◌+◌, ◌-◌, ◌<◌, ◌≤◌, Bool, true, false, List, get_or, Option, Some, None, Result, refl, sym, ap, subst, ◌∙◌, arith, inl, inr}
use Rattle.std.specs.Prelude.{nat_lt, nat_le, ◌==◌, unwrap_or, option_map}
use Rattle.std.proofs.lemmas.Bool.{cond-false, le-leb, lt-ltb, eqb-true, eqb-false, cases_Bool, and_from}
use Rattle.omf_frame.specs.Fault.{Fault}
use Rattle.omf_frame.specs.declared.fault.Reason.{Reason}
use Rattle.omf_frame.specs.declared.fault.Reason.TheVariants as reason
use Rattle.omf_records.specs.declared.location.LocationType.{LocationType}
use Rattle.omf_records.specs.declared.location.LocationType.TheVariants as types
use Rattle.omf_records.specs.Location.{location, location_of}
use Rattle.omf_records.specs.Inner.Names.{location_size}
use Rattle.omf_records.specs.Inner.Passing.{IsEntry, IsWithin, IsSound, PassesNext}
use Rattle.omf_records.specs.Inner.Unread.{Pending}
use Rattle.omf_records.specs.Values.{At, Subrecord, Thread, Fixup, location_type, location_offset, frame_by_thread, frame_bits, target_by_thread, target_bits}
use Rattle.omf_records.specs.Methods.{kind_of, frame_code}
use Rattle.omf_check.specs.declared.last_data.LastData.{LastData}
use Rattle.omf_check.specs.declared.last_data.LastData.TheVariants as last
use Rattle.omf_check.specs.declared.threads.Threads.{Threads}
use Rattle.omf_check.specs.Inner.Kept.{Kept, set_thread}
use Rattle.omf_check.specs.Tables.{is_defined}
use Rattle.omf_check.specs.Threads.{frame_by}
use Rattle.omf_check.specs.Rules.{judged_at}
use Rattle.omf_check.specs.Inner.Judging.{fault_unless, lesser, frame_fault, target_fault, frame_cell, target_cell, reference_fault, location_fault, subrecord_fault}
use Rattle.omf_check.specs.Inner.Walking.{table_counts, plain_length}
use Rattle.omf_check.proofs.Lesser.{lesser_none}
use Rattle.omf_check.proofs.Walked.{Takes, takes_more}

-- ---- the rules hold

holds : (b : Bool) (at : ℕ) (why : Reason) → b ≡ true → fault_unless b at why ≡ None
holds true at why e = refl
holds false at why e = absurd cc

neither : (a b : Option Fault) → a ≡ None → b ≡ None → lesser a b ≡ None
neither a b e h = rw (e, h) refl

defined : (n : ℕ) (d : Option (At ℕ)) → IsEntry n d → is_defined n (unwrap_or (option_map (λ a. a.item) d) 0) ≡ true
defined n None e = absurd e
defined n (Some a) e = and_from (nat_le 1 a.item) (nat_le a.item n) (le-leb 1 a.item e.0) (le-leb a.item n e.1)

sized : (t : LocationType) → 1 ≤ (location t).size
sized types.LowByte = omega arith
sized types.Offset16 = omega arith
sized types.Base = omega arith
sized types.Pointer16 = omega arith
sized types.HighByte = omega arith
sized types.LoaderOffset16 = omega arith
sized types.Offset32 = omega arith
sized types.Pointer32 = omega arith
sized types.LoaderOffset32 = omega arith

some-size : (n : ℕ) → 1 ≤ location_size n
some-size n = sized (unwrap_or (location_of n) types.Pointer32)

no-location : (l : Option LastData) (within locat : ℕ) → IsWithin (plain_length l) locat → location_fault l within locat ≡ None
no-location (Some (last.Plain n)) within locat h = holds (nat_le (location_offset locat + location_size (location_type locat)) n) within reason.OutsideRecord (le-leb _ n h)
no-location (Some last.Iterated) within locat h = let some = some-size (location_type locat) in absurd (omega (arith, h, some))
no-location None within locat h = let some = some-size (location_type locat) in absurd (omega (arith, h, some))

module _ (kept : Kept) (at : ℕ) (d : Option (At ℕ)) where
  abbrev Framed : ℕ → Type 0
  Framed m = frame_fault kept at (Some (frame_by (frame_code m) (unwrap_or (option_map (λ a. a.item) d) 0))) ≡ None

  frame-late : (m : ℕ) → (m == 0) ≡ false → (m == 1) ≡ false → (m == 2) ≡ false → Framed m
  frame-late m a b c = rw (a, b, c) (elim (cases_Bool (m == 4)) [ inl t ↦ rw t refl | inr t ↦ rw t refl ])

  frame-none : (m : ℕ) → (nat_lt m 3 ≡ true → IsEntry (get_or (table_counts kept) m 0) d) → Framed m
  frame-none m h = elim (cases_Bool (m == 0)) [
    | inl t ↦ let e : m ≡ 0 = eqb-true m 0 t in let k = subst (λ (x : ℕ). nat_lt x 3 ≡ true → IsEntry (get_or (table_counts kept) x 0) d) e h in
        subst Framed (sym e) (holds _ at _ (defined _ d (k refl)))
    | inr a ↦ elim (cases_Bool (m == 1)) [
      | inl t ↦ let e : m ≡ 1 = eqb-true m 1 t in let k = subst (λ (x : ℕ). nat_lt x 3 ≡ true → IsEntry (get_or (table_counts kept) x 0) d) e h in
          subst Framed (sym e) (holds _ at _ (defined _ d (k refl)))
      | inr b ↦ elim (cases_Bool (m == 2)) [
        | inl t ↦ let e : m ≡ 2 = eqb-true m 2 t in let k = subst (λ (x : ℕ). nat_lt x 3 ≡ true → IsEntry (get_or (table_counts kept) x 0) d) e h in
            subst Framed (sym e) (holds _ at _ (defined _ d (k refl)))
        | inr c ↦ frame-late m a b c
      ]
    ]
  ]

  abbrev Aimed : ℕ → Type 0
  Aimed m = target_fault kept at (Some (record { kind = kind_of m; index = unwrap_or (option_map (λ a. a.item) d) 0 })) ≡ None

  below-three : (m : ℕ) → m < 3 → (m ≡ 0 → ⊥) → (m ≡ 1 → ⊥) → m ≡ 2
  below-three m h a b = omega arith

  target-none : (m : ℕ) → m < 3 → IsEntry (get_or (table_counts kept) m 0) d → Aimed m
  target-none m low h = elim (cases_Bool (m == 0)) [
    | inl t ↦ let e : m ≡ 0 = eqb-true m 0 t in let k = subst (λ (x : ℕ). IsEntry (get_or (table_counts kept) x 0) d) e h in
        subst Aimed (sym e) (holds _ at _ (defined _ d k))
    | inr a ↦ elim (cases_Bool (m == 1)) [
      | inl t ↦ let e : m ≡ 1 = eqb-true m 1 t in let k = subst (λ (x : ℕ). IsEntry (get_or (table_counts kept) x 0) d) e h in
          subst Aimed (sym e) (holds _ at _ (defined _ d k))
      | inr b ↦ let e = below-three m low (eqb-false m 0 a) (eqb-false m 1 b) in let k = subst (λ (x : ℕ). IsEntry (get_or (table_counts kept) x 0) d) e h in
          subst Aimed (sym e) (holds _ at _ (defined _ d k))
    ]
  ]

-- ---- a sound FIXUP

pub no-fault : (kept : Kept) (cells : Threads) (within : ℕ) (s : Subrecord) → IsSound (table_counts kept) (plain_length kept.last) s → subrecord_fault kept cells within s ≡ None
no-fault kept cells within (Thread byte datum) h = refl
no-fault kept cells within (Fixup locat r) h =
    let f = r.fix.item in
    let frame : frame_fault kept (judged_at r r.frame) (frame_cell cells r) ≡ None
    = ap (frame_fault kept (judged_at r r.frame)) (cond-false (frame_by_thread f) _ _ h.1.own_frame) ∙ frame-none kept (judged_at r r.frame) r.frame (frame_bits f) h.1.frame in
    let target : target_fault kept (judged_at r r.target) (target_cell cells r) ≡ None
    = ap (target_fault kept (judged_at r r.target)) (cond-false (target_by_thread f) _ _ h.1.own_target) ∙ target-none kept (judged_at r r.target) r.target (target_bits f) h.1.kind h.1.target in
    neither (location_fault kept.last within locat) (reference_fault kept cells r) (no-location kept.last within locat h.0)
    (neither (frame_fault kept (judged_at r r.frame) (frame_cell cells r)) (target_fault kept (judged_at r r.target) (target_cell cells r)) frame target)

no-thread : (counts : List ℕ) (size : ℕ) (cells : Threads) (s : Subrecord) → IsSound counts size s → cells ≡ set_thread cells s
no-thread counts size cells (Thread byte datum) h = absurd h
no-thread counts size cells (Fixup locat r) h = refl

-- ---- one more is taken

pub takes_passed : (kept : Kept) (left fewer : ℕ) (threads : Threads) (beyond found : Option Fault) (old new : Pending Subrecord) (all : Result (List (At Subrecord)) Fault)
    → 0 < left → fewer ≡ left - 1 → PassesNext (table_counts kept) (plain_length kept.last) old new
    → Takes kept left threads beyond found old.items all → Takes kept fewer threads beyond found new.items all
takes_passed kept left fewer threads beyond found old new all some f p h =
    takes_more kept left fewer threads threads beyond beyond None found found None p.next old.items new.items all
    (sym (lesser_none beyond))
    (sym (holds (nat_lt 0 left) p.next.within reason.TooMany (lt-ltb 0 left some)))
    f (sym (lesser_none found))
    (sym (no-fault kept threads p.next.within p.next.item p.sound))
    (no-thread (table_counts kept) (plain_length kept.last) threads p.next.item p.sound)
    p.gives.0 h
