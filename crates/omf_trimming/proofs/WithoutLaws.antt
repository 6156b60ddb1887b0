-- A module without segments that is checked again.
use Rattle.std.proofs.Common.{◌≡◌, ℕ, ◌<◌, List, [], ◌∷◌, length, sym, ap₂, ◌∙◌, subst, arith, append-nil}
use Rattle.std.specs.Prelude.{Ok, Err}
use Rattle.omf_frame.proofs.ModuleLaws.{framed_once}
use Rattle.omf_frame.specs.declared.fault.Place.{Place}
use Rattle.omf_frame.specs.declared.fault.Reason.{Reason}
use Rattle.omf_image.specs.Limits.{profile_limits}
use Rattle.omf_check.proofs.AcceptLaws.{never_both}
use Rattle.omf_check.specs.Checking.{Decides}
use Rattle.omf_check.specs.Module.{Module, records_in}
use Rattle.omf_check.specs.Refusal.{IsRefused}
use Rattle.omf_check.specs.WellFormed.{IsWellFormed}
use Rattle.omf_check.specs.declared.fault.CheckFault.TheVariants as check_fault
use Rattle.omf_check.specs.declared.profile.Profile.{Profile}
use Rattle.omf_trimming.specs.Without.{IsWithout, records_without, without}
use Rattle.omf_trimming.specs.declared.without.LeftPublics.{LeftPublics}

module _ (p : LeftPublics) (gone : List ℕ) (m : Module) (input bytes : List ℕ) (profile : Profile) (e : input ≡ bytes) (q : profile ≡ m.profile)
    (w : IsWellFormed m.profile profile_limits bytes (records_without p gone (records_in m.bytes))) where
  -- The check finds these bytes, and no less.
  pub without-found : (o : Module) → 0 < length gone → bytes ≡ without p gone m.bytes → Decides profile input (Ok o) → IsWithout p gone m o
  without-found o some made (same, (a, is)) =
      let all : a.bytes ≡ bytes = (framed_once a.bytes bytes a.rest [] (records_in o.bytes) (records_without p gone (records_in m.bytes)) a.well_formed.framed w.framed (sym a.spelled ∙ e ∙ sym (append-nil bytes))).0 in
      let made_of = λ (b : List ℕ) (r : Profile). let y : Module = record { bytes = b; profile = r } in y in
      is-without gone some (ap₂ made_of (sym is ∙ all ∙ made) (same ∙ q))
    where
      is-without : (gone : List ℕ) → 0 < length gone → o ≡ record m { bytes = without p gone m.bytes } → IsWithout p gone m o
      is-without [] some h = absurd (omega (arith, some))
      is-without (s ∷ ss) some h = h

  -- They are not refused.
  pub without-refused : (why : Reason) (at : Place) → Decides profile input (Err (check_fault.Refused why at)) → ⊥
  without-refused why at d =
      let refused : IsRefused m.profile profile_limits bytes why at = subst (λ (r : Profile). IsRefused r profile_limits bytes why at) q (subst (λ (b : List ℕ). IsRefused profile profile_limits b why at) e d) in
      never_both m.profile profile_limits bytes (records_without p gone (records_in m.bytes)) why at (record { bytes = bytes; rest = []; spelled = sym (append-nil bytes); well_formed = w }) refused
