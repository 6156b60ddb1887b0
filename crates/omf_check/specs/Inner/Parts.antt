-- The invariant of a checked module, by its parts.
use Rattle.std.specs.Prelude.{◌≡◌, ℕ, List, length}
use Rattle.omf_image.specs.Limits.{profile_limits}
use Rattle.omf_check.specs.Inner.Kept.{Kept, Tells, IsBounded}
use Rattle.omf_check.specs.Inner.Points.{PointsTo}
use Rattle.omf_check.specs.WellFormed.{IsWellFormed, recs}
use Rattle.omf_check.specs.declared.profile.Profile.{Profile}
use Rattle.omf_check.specs.Module.{records_in}

-- The invariant of a checked module, by its parts.
pub record IsChecked (profile : Profile) (bytes : List ℕ) (kept : Kept) (count : ℕ) : Type 0 where
  pub well_formed : IsWellFormed profile profile_limits bytes (records_in bytes)
  pub tells : Tells kept (recs (records_in bytes))
  pub points : PointsTo bytes kept (recs (records_in bytes))
  pub bounded : IsBounded kept
  pub counted : count ≡ length (records_in bytes)
