-- A judging answers the counts of the module, or that memory or the reader failed.
use Rattle.std.proofs.Common.{◌≡◌, ◌∙◌, ◌⊎◌, ℕ, List, Result, Ok, Err, sym, ap, ap₂, refl, length, inl, inr}
use Rattle.omf_image.specs.Limits.{profile_limits}
use Rattle.omf_check.specs.declared.fault.CheckFault.{CheckFault}
use Rattle.omf_check.specs.declared.fault.CheckFault.TheVariants as check
use Rattle.omf_check.specs.declared.judged.Judged.{Judged}
use Rattle.omf_check.specs.declared.profile.Profile.{Profile}
use Rattle.omf_check.specs.Judging.{Judges, BeginsWith}
use Rattle.omf_check.proofs.AcceptLaws.{accepted_once, never_both}

-- these counts
abbrev counted : ℕ → ℕ → Result Judged CheckFault
counted count size = Ok (record { record_count = count; size = size })

pub judging_counts : (profile : Profile) (input : List ℕ) (count size : ℕ) (answer : Result Judged CheckFault) → BeginsWith profile input count size → Judges profile input answer
    → (answer ≡ counted count size) ⊎ (answer ≡ Err check.Memory) ⊎ (answer ≡ Err check.Read)
judging_counts profile input count size (Ok j) b h =
    let same = accepted_once profile profile_limits input h.0 b.0 h.1 b.1 in
    let counts : j.record_count ≡ count = h.2 ∙ ap length same.0 ∙ sym b.2 in
    let sizes : j.size ≡ size = h.3 ∙ ap length same.1 ∙ sym b.3 in
    inl (ap₂ counted counts sizes)
judging_counts profile input count size (Err check.Memory) b h = inr (inl refl)
judging_counts profile input count size (Err check.Read) b h = inr (inr refl)
judging_counts profile input count size (Err (check.Refused why at)) b h = absurd (never_both profile profile_limits input b.0 why at b.1 h)
