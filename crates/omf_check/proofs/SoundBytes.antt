-- Bytes that have no refusal other than for ending too early.
use Rattle.std.proofs.Common.{◌≡◌, ℕ, List, [], ◌++◌, refl, sym, ◌∙◌, ap, subst, inl, inr}
use Rattle.std.specs.Prelude.{◌⊎◌, ◌↔◌, IsTrue}
use Rattle.std.proofs.lemmas.List.{append-nil, append_cancel_left}
use Rattle.omf_frame.specs.Bytes.{AreBytes}
use Rattle.omf_frame.specs.Framing.{Raw, is_end_of_input}
use Rattle.omf_frame.specs.declared.fault.Place.{Place}
use Rattle.omf_frame.specs.declared.fault.Reason.{Reason}
use Rattle.omf_image.specs.declared.limits.Limits.{Limits}
use Rattle.omf_check.specs.declared.profile.Profile.{Profile}
use Rattle.omf_check.specs.Refusal.{IsRefused, AreSoundSoFar}
use Rattle.omf_check.specs.WellFormed.{IsWellFormed, IsAccepted}
use Rattle.omf_check.specs.Laws.{SaysSound, IsUnrefused}
use Rattle.omf_check.specs.Inner.Verdict.{Verdict, Accepted, Refused, Unknown, verdict}
use Rattle.omf_check.proofs.AcceptLaws.{never_both, accepted_once}
use Rattle.omf_check.proofs.UniqueLaws.{refused_once}
use Rattle.omf_check.proofs.VerdictLaws.{either, verdict_accepts, verdict_refuses}

module _ (profile : Profile) (limits : Limits) (bytes : List ℕ) where
  -- a module is accepted, with nothing after it
  abbrev pub accepted_whole : (records : List Raw) → IsWellFormed profile limits bytes records → IsAccepted profile limits bytes records
  accepted_whole records w = record { bytes = bytes; rest = []; spelled = sym (append-nil bytes); well_formed = w }

  -- a refusal of them is that they end too early
  pub no_other : AreSoundSoFar profile limits bytes → (why : Reason) (at : Place) → IsRefused profile limits bytes why at → IsTrue (is_end_of_input why)
  no_other (inl m) why at r = absurd (never_both profile limits bytes m.0 why at (accepted_whole m.0 m.1) r)
  no_other (inr h) why at r = subst (λ y. IsTrue (is_end_of_input y)) (refused_once profile limits bytes h.0 why h.1 at h.3 r).0 h.2

  -- nothing follows the module that they are
  pub nothing_behind : AreSoundSoFar profile limits bytes → (records : List Raw) (a : IsAccepted profile limits bytes records) → a.rest ≡ []
  nothing_behind (inl m) records a =
      let same : a.bytes ≡ bytes = (accepted_once profile limits bytes records m.0 a (accepted_whole m.0 m.1)).1 in
      append_cancel_left bytes a.rest [] (ap (λ x. x ++ a.rest) (sym same) ∙ sym a.spelled ∙ sym (append-nil bytes))
  nothing_behind (inr h) records a = absurd (never_both profile limits bytes records h.0 h.1 a h.3)

  all_accepted : (records : List Raw) (a : IsAccepted profile limits bytes records) → a.rest ≡ [] → IsWellFormed profile limits bytes records
  all_accepted records a e = subst (λ x. IsWellFormed profile limits x records) (sym (a.spelled ∙ ap (λ x. a.bytes ++ x) e ∙ append-nil a.bytes)) a.well_formed

  by_either : ((records : List Raw) × IsAccepted profile limits bytes records) ⊎ ((why : Reason) × (at : Place) × IsRefused profile limits bytes why at) → IsUnrefused profile limits bytes → AreSoundSoFar profile limits bytes
  by_either (inl x) h = inl (x.0, all_accepted x.0 x.1 (h.1 x.0 x.1))
  by_either (inr x) h = inr (x.0, x.1, h.0 x.0 x.1 x.2, x.2)

  pub sound_unrefused : AreBytes bytes → AreSoundSoFar profile limits bytes ↔ IsUnrefused profile limits bytes
  sound_unrefused small = (λ s. (no_other s, nothing_behind s), by_either (either profile limits bytes small))

  -- The verdict on them.
  says : AreBytes bytes → AreSoundSoFar profile limits bytes → SaysSound bytes (verdict profile limits bytes)
  says small (inl m) = subst (SaysSound bytes) (sym ((verdict_accepts profile limits bytes small m.0).1 (accepted_whole m.0 m.1))) (sym m.1.framed.spelled)
  says small (inr h) = subst (SaysSound bytes) (sym ((verdict_refuses profile limits bytes small h.0 h.1).1 h.3)) h.2

  by_verdict : AreBytes bytes → (v : Verdict) → verdict profile limits bytes ≡ v → SaysSound bytes v → AreSoundSoFar profile limits bytes
  by_verdict small (Accepted records) e s =
      let a = (verdict_accepts profile limits bytes small records).0 e in
      inl (records, subst (λ x. IsWellFormed profile limits x records) (a.well_formed.framed.spelled ∙ s) a.well_formed)
  by_verdict small (Refused why at) e s = inr (why, at, s, (verdict_refuses profile limits bytes small why at).0 e)
  by_verdict small Unknown e s = absurd s

  pub sound_verdict : AreBytes bytes → AreSoundSoFar profile limits bytes ↔ SaysSound bytes (verdict profile limits bytes)
  sound_verdict small = (says small, by_verdict small (verdict profile limits bytes) refl)
