-- How canonical bytes relate to their module.
use Rattle.std.specs.Prelude.{◌≡◌, ◌↔◌, ℕ, ◌≤◌, List}
use Rattle.omf_frame.specs.Framing.{Raw}
use Rattle.omf_image.specs.Limits.{profile_limits}
use Rattle.omf_image.specs.declared.limits.Limits.{Limits}
use Rattle.omf_check.specs.Module.{recs_of, records_in}
use Rattle.omf_check.specs.Tables.{item_count}
use Rattle.omf_check.specs.WellFormed.{IsWellFormed, recs}
use Rattle.omf_check.specs.declared.profile.Profile.{Profile}
use Rattle.omf_placement.specs.Placement.{Places}
use Rattle.omf_canon.specs.Canonical.{canonical}
use Rattle.omf_canon.specs.Laws.{MeanTheSame}
use Rattle.omf_canon.specs.Skeleton.{skeleton}

-- They are well formed under its profile, have no more items than it, have its skeleton, and are their own canonical bytes. Another module
-- has the same canonical bytes exactly if it has the same skeleton. At every placement they mean the same.
pub record IsFormOf (profile : Profile) (whole : List ℕ) (form : List ℕ) : Type 0 where
  pub well_formed : IsWellFormed profile profile_limits form (records_in form)
  pub items : item_count (recs_of form) ≤ item_count (recs_of whole)
  pub same_skeleton : skeleton (recs_of form) ≡ skeleton (recs_of whole)
  pub fixed : canonical (recs_of form) ≡ form
  pub decides : (other : Profile) (limits : Limits) (bytes : List ℕ) (records : List Raw) → IsWellFormed other limits bytes records
      → (form ≡ canonical (recs records)) ↔ (skeleton (recs_of whole) ≡ skeleton (recs records))
  pub meaning : (pl : Places) → MeanTheSame profile_limits pl (recs_of form) (recs_of whole)
