-- A record has no fault in any step exactly if it is sound.
use Rattle.std.proofs.Common.{◌≡◌, ◌+◌, ◌<◌, List, [], ◌∷◌, ◌++◌, refl, sym, ◌∙◌, ap, length}
use Rattle.std.specs.Prelude.{IsTrue, not, ◌||◌}
use Rattle.omf_check.specs.Inner.Names.{steps, short_or_deep, too_long, is_empty}
use Rattle.omf_check.specs.declared.profile.Profile.{Profile}
use Rattle.omf_image.specs.declared.limits.Limits.{Limits}
use Rattle.omf_frame.specs.Inner.Names.{AreKept}
use Rattle.omf_frame.specs.Fault.{Fault, first_step}
use Rattle.omf_frame.specs.Framing.{Raw, raw_bytes, IsRecord, is_taken, is_header, frame_steps}
use Rattle.omf_records.specs.Inner.Reading.{typed, layout_faults}
use Rattle.omf_check.specs.Rules.{rules}
use Rattle.omf_check.specs.Inner.Faults.{record_steps}
use Rattle.omf_check.specs.WellFormed.{recs}
use Rattle.omf_frame.proofs.FaultLaws.{kept_none, none_kept}
use Rattle.omf_frame.proofs.FramingLaws.{front_raw}
use Rattle.omf_frame.proofs.StepLaws.{some_none, first_one, first_of_none, first_both, first_parts, AreFramed, framed_of, of_framed, raw_framed}

append_none : (fs gs : List Fault) → fs ≡ [] → gs ≡ [] → fs ++ gs ≡ []
append_none fs gs hf hg = ap (λ x. x ++ gs) hf ∙ hg

none_append : (fs gs : List Fault) → fs ++ gs ≡ [] → (fs ≡ []) × (gs ≡ [])
none_append [] gs h = (refl, h)
none_append (f ∷ fs) gs h = absurd (some_none f (fs ++ gs) h)

-- A record without fault after these records.
pub record IsSound (profile : Profile) (limits : Limits) (before : List Raw) (r : Raw) : Type 0 where
  pub known : IsTrue (is_taken r.kind)
  pub headed : IsTrue (not (is_empty before) || is_header r.kind)
  pub read : layout_faults r ≡ []
  pub blocks : short_or_deep limits r.kind (typed r).contents ≡ []
  pub long : too_long limits r.kind (typed r).contents ≡ []
  pub kept : AreKept (rules profile limits (recs before) (typed r))

module _ (profile : Profile) (limits : Limits) (before : List Raw) where
  steps_of : (r : Raw) → length r.body + 1 < 65536 → first_step (steps profile limits before (raw_bytes r)) ≡ first_step (frame_steps (is_empty before) (raw_bytes r) ++ record_steps profile limits before r)
  steps_of r small = ap (λ x. first_step (frame_steps (is_empty before) (raw_bytes r) ++ record_steps profile limits before x)) (front_raw r small)

  pub no_step : (r : Raw) → IsRecord r → IsSound profile limits before r → first_step (steps profile limits before (raw_bytes r)) ≡ []
  no_step r is s =
      steps_of r is.0 ∙ first_both (frame_steps (is_empty before) (raw_bytes r)) (record_steps profile limits before r)
      (of_framed (is_empty before) (raw_bytes r) (raw_framed (is_empty before) r is s.known s.headed))
      (first_of_none _ _ (append_none (layout_faults r) (short_or_deep limits r.kind (typed r).contents) s.read s.blocks)
      (first_of_none _ _ s.long
      (first_of_none _ [] (kept_none (rules profile limits (recs before) (typed r)) s.kept) refl)))

  pub sound_of : (r : Raw) → IsRecord r → first_step (steps profile limits before (raw_bytes r)) ≡ [] → IsSound profile limits before r
  sound_of r is e =
      let h = first_parts (frame_steps (is_empty before) (raw_bytes r)) (record_steps profile limits before r) (sym (steps_of r is.0) ∙ e) in
      let f : AreFramed (is_empty before) (raw_bytes r) = framed_of (is_empty before) (raw_bytes r) h.0 in
      let first = first_one _ _ h.1 in
      let second = first_one _ _ first.1 in
      let third = first_one _ _ second.1 in
      let layout = none_append (layout_faults r) (short_or_deep limits r.kind (typed r).contents) first.0 in
      record {
        known = f.known;
        headed = f.headed;
        read = layout.0;
        blocks = layout.1;
        long = second.0;
        kept = none_kept (rules profile limits (recs before) (typed r)) third.0;
      }
