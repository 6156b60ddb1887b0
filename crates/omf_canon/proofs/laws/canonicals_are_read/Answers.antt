use Rattle.std.specs.Prelude.{◌≡◌, ℕ, List}
use Rattle.omf_frame.specs.Framing.{Raw}
use Rattle.omf_image.specs.declared.limits.Limits.{Limits}
use Rattle.omf_check.proofs.ListedLaws.{records_back}
use Rattle.omf_check.proofs.WellLaws.{well-read}
use Rattle.omf_check.specs.Module.{records_in}
use Rattle.omf_check.specs.WellFormed.{IsWellFormed, recs}
use Rattle.omf_check.specs.declared.profile.Profile.{Profile}
use Rattle.omf_canon.specs.Canonical.{canonical_raws, canonical}
use Rattle.omf_canon.specs.Skeleton.{skeleton}
use Rattle.omf_canon.proofs.laws.canonicals_are_read.Goals as goal

read-back : (profile : Profile) (limits : Limits) (bytes : List ℕ) (records : List Raw) → IsWellFormed profile limits bytes records → records_in bytes ≡ records
read-back profile limits bytes records w = records_back bytes records w.framed.spelled (λ k d lt. record { is_record = w.framed.each k d lt; taken = w.framed.types k d lt; typed = (well-read profile limits bytes records w).spelled k d lt })

pub returns : goal.returns
returns c = λ profile limits bytes records w.
    read-back profile limits (canonical (recs records)) (canonical_raws (skeleton (recs records))) (c.canonicals_are_well_formed.ensures profile limits bytes records w).0
