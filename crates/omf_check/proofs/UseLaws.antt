-- In a module whose records hold, every index and every thread that is used is defined.
use Rattle.std.proofs.Common.{◌≡◌, ℕ, zero, suc, true, List, [], ◌∷◌, ◌++◌, refl, sym, ◌∙◌, ap, subst, arith, append_assoc, map}
use Rattle.std.specs.Prelude.{Option, Some, None, option_map, unwrap_or, All, IsSome, nat_le, ◌&&◌, cond}
use Rattle.std.proofs.lemmas.Bool.{le-leb, ne_eqb}
use Rattle.std.proofs.lemmas.List.{map-append}
use Rattle.std.proofs.lemmas.List.Elements.{All-append, All-cons, All-nil, All-head, All-tail}
use Rattle.omf_frame.specs.Bytes.{with_before}
use Rattle.omf_image.specs.declared.limits.Limits.{Limits}
use Rattle.omf_records.specs.Values.{At, Rec, Contents, Header, Segment, Group, Publics, Plain, Iterated, Fixups, ModEnd, Subrecord, Thread, Fixup, Reference}
use Rattle.omf_check.specs.Inner.Names.{frame_from, target_from}
use Rattle.omf_check.specs.Sound.{FrameIsDefined, TargetIsDefined, ReferenceHolds, SubrecordHolds, SubrecordsHold, ContentsHold, ModuleHolds}
use Rattle.omf_check.specs.Tables.{is_defined, is_none_or_defined, subrecords}
use Rattle.omf_check.specs.Threads.{Setting, FrameMethod, Of, F4, F5, T0, frame_setting, target_setting, frame_of, target_of}
use Rattle.omf_check.specs.Uses.{use_or_none, method_uses, reference_uses, subrecord_uses, uses, IsDefinedUse, UsesAreDefined}

abbrev Use : Type 0
Use = Option (ℕ × ℕ)

abbrev AreDefined : List Use → Type 0
AreDefined us = All IsDefinedUse us

one : (n i : ℕ) → is_defined n i ≡ true → AreDefined (Some (i, n) ∷ [])
one n i h = All-cons IsDefinedUse (Some (i, n)) [] h (All-nil IsDefinedUse)

one-or-none : (n i : ℕ) → is_none_or_defined n i ≡ true → AreDefined (use_or_none n i)
one-or-none n zero h = All-nil IsDefinedUse
one-or-none n (suc i) h =
    subst (λ b. AreDefined (cond b [] (Some (suc i, n) ∷ []))) (sym (ne_eqb (suc i) 0 (λ e. not-zero i e)))
    (one n (suc i) (ap (λ b. b && nat_le (suc i) n) (le-leb 1 (suc i) (omega arith)) ∙ h))
  where
    not-zero : (k : ℕ) → suc k ≡ 0 → ⊥
    not-zero k e = omega (arith, e)

two : (us vs : List Use) → AreDefined us → AreDefined vs → AreDefined (us ++ vs)
two us vs g h = All-append IsDefinedUse us vs g h

of-frame : (before : List Rec) (f : FrameMethod) → FrameIsDefined before f → AreDefined (method_uses before (Some f))
of-frame before (Of t) h = one _ t.index h
of-frame before F4 h = All-nil IsDefinedUse
of-frame before F5 h = All-nil IsDefinedUse

frame-used : (before : List Rec) (o : Option Setting) → IsSome o → FrameIsDefined before (unwrap_or (option_map frame_from o) F5) → AreDefined (method_uses before (option_map frame_from o))
frame-used before None some h = absurd cc
frame-used before (Some s) some h = of-frame before (frame_from s) h

target-used : (before : List Rec) (o : Option Setting) → IsSome o → TargetIsDefined before (unwrap_or (option_map target_from o) (T0 0)) → AreDefined (method_uses before (option_map Of (option_map target_from o)))
target-used before None some h = absurd cc
target-used before (Some s) some h = one _ (target_from s).index h

reference-used : (before : List Rec) (earlier : List Subrecord) (r : Reference) → ReferenceHolds before earlier r → AreDefined (reference_uses before earlier r)
reference-used before earlier r h =
    two (method_uses before (frame_of earlier r)) (method_uses before (option_map Of (target_of earlier r)))
    (frame-used before (frame_setting earlier r) h.frame_set h.frame) (target-used before (target_setting earlier r) h.target_set h.target)

subrecord-used : (before : List Rec) (earlier : List Subrecord) (s : Subrecord) → SubrecordHolds before (subrecords before ++ earlier) s → AreDefined (subrecord_uses before earlier s)
subrecord-used before earlier (Thread byte datum) h = All-nil IsDefinedUse
subrecord-used before earlier (Fixup locat r) h = reference-used before (subrecords before ++ earlier) r h.reference

module _ (before : List Rec) (subs : List (At Subrecord)) (h : SubrecordsHold before subs) where
  abbrev items : List (At Subrecord) → List Subrecord
  items xs = map (λ s. s.item) xs

  subrecords-used : (done rest : List (At Subrecord)) → subs ≡ done ++ rest → AreDefined (with_before (subrecord_uses before) (items done) (items rest))
  subrecords-used done [] e = All-nil IsDefinedUse
  subrecords-used done (s ∷ rest) e =
      let others = subrecords-used (done ++ s ∷ []) rest (e ∙ sym (append_assoc done (s ∷ []) rest)) in
      two (subrecord_uses before (items done) s.item) (with_before (subrecord_uses before) (items done ++ s.item ∷ []) (items rest))
      (subrecord-used before (items done) s.item (h done rest s e))
      (subst (λ xs. AreDefined (with_before (subrecord_uses before) xs (items rest))) (map-append (λ (x : At Subrecord). x.item) done (s ∷ [])) others)

members-used : (n : ℕ) (ms : List (At (At ℕ))) → All (λ m. is_defined n m.item.item ≡ true) ms → AreDefined (map (λ m. Some (m.item.item, n)) ms)
members-used n [] h = All-nil IsDefinedUse
members-used n (m ∷ ms) h =
    All-cons IsDefinedUse (Some (m.item.item, n)) (map (λ x. Some (x.item.item, n)) ms) (All-head (λ x. is_defined n x.item.item ≡ true) m ms h)
    (members-used n ms (All-tail (λ x. is_defined n x.item.item ≡ true) m ms h))

contents-used : (limits : Limits) (before : List Rec) (kind : ℕ) (c : Contents) → ContentsHold limits before kind c → AreDefined (uses before c)
contents-used limits before kind (Plain d) h = one _ d.segment.item h.segment
contents-used limits before kind (Iterated d) h = one _ d.segment.item h.lies.segment
contents-used limits before kind (Segment s) h = two _ _ (one-or-none _ s.name.item h.name) (one-or-none _ s.class.item h.class)
contents-used limits before kind (Group g) h = two _ _ (one-or-none _ g.name.item h.name) (members-used _ g.members h.members)
contents-used limits before kind (Publics p) h = two _ _ (one-or-none _ p.group.item h.group) (one-or-none _ p.segment.item h.segment)
contents-used limits before kind (Fixups subs) h = subrecords-used before subs h [] subs refl
contents-used limits before kind (ModEnd byte (Some r)) h = reference-used before (subrecords before) r h.reference
contents-used limits before kind (ModEnd byte None) h = All-nil IsDefinedUse
contents-used limits before kind (Header n) h = All-nil IsDefinedUse
contents-used limits before kind _ h = All-nil IsDefinedUse

pub module-uses : (limits : Limits) (m : List Rec) → ModuleHolds limits m → UsesAreDefined m
module-uses limits m h before after r e = contents-used limits before r.kind r.contents (h.each before after r e)
