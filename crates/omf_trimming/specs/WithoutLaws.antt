-- Laws of what is left of a module, each the contract of a function of the same name.
use Rattle.std.specs.Prelude.{◌≡◌, ℕ, List, [], ◌∷◌, filter, flat_map, map, not, None, if◌then◌else◌}
use Rattle.std.specs.List.{enumerate_from}
use Rattle.omf_frame.specs.Bytes.{is_one_of}
use Rattle.omf_image.specs.declared.limits.Limits.{Limits}
use Rattle.omf_records.specs.Values.{Contents, PublicItems, Publics, Rec, alone}
use Rattle.omf_check.specs.Module.{records_in, recs_of}
use Rattle.omf_check.specs.Tables.{externals, groups, locals, names, segments}
use Rattle.omf_check.specs.WellFormed.{IsWellFormed, recs}
use Rattle.omf_check.specs.declared.profile.Profile.{Profile}
use Rattle.omf_check.specs.declared.segment.SegInfo.{SegInfo}
use Rattle.omf_trimming.specs.Choice.{data_of}
use Rattle.omf_trimming.specs.Without.{left_field, records_without, recs_without, without}
use Rattle.omf_trimming.specs.declared.without.LeftPublics.{LeftPublics}
use Rattle.omf_trimming.specs.declared.without.LeftPublics.TheVariants.{Gone}

-- A well-formed module is well-formed without any of its segments, and has then the records that are left.
abbrev pub RestsAreWellFormed : Type 0
RestsAreWellFormed = (publics : LeftPublics) (gone : List ℕ) (profile : Profile) (limits : Limits) (bytes : List ℕ)
    → IsWellFormed profile limits bytes (records_in bytes) → IsWellFormed profile limits (without publics gone bytes) (records_without publics gone (records_in bytes))

-- Its typed records are those that are left, but for their places.
abbrev pub RestsAreTyped : Type 0
RestsAreTyped = (publics : LeftPublics) (gone : List ℕ) (profile : Profile) (limits : Limits) (bytes : List ℕ)
    → IsWellFormed profile limits bytes (records_in bytes) → map alone (recs (records_without publics gone (records_in bytes))) ≡ map alone (recs_without publics gone (recs_of bytes))

-- The PUBDEFs and LPUBDEFs of a module.
abbrev pub publics_by : Contents → List PublicItems
publics_by (Publics p) = p ∷ []
publics_by _ = []

abbrev pub public_records : List Rec → List PublicItems
public_records m = flat_map (λ t. publics_by t.contents) m

-- A segment with its index: one of those that are left out has no bytes and no address, and no name where its names are left out too.
abbrev pub left_segment : LeftPublics → List ℕ → ℕ × SegInfo → SegInfo
left_segment publics gone s =
    if is_one_of gone s.0 then record { length = 0; absolute = None; name = left_field publics s.1.name; class = left_field publics s.1.class } else s.1

-- What a module has without these segments: all its names, groups and externals, as many segments, and the data of the others.
pub record HasTheRest (publics : LeftPublics) (gone : List ℕ) (m out : List Rec) : Type 0 where
  pub same_names : names out ≡ names m
  pub same_groups : groups out ≡ groups m
  pub same_externals : externals out ≡ externals m
  pub same_locals : locals out ≡ locals m
  pub left_segments : segments out ≡ map (left_segment publics gone) (enumerate_from 1 (segments m))
  pub left_data : (segment : ℕ) → data_of segment out ≡ (if is_one_of gone segment then [] else data_of segment m)

abbrev pub RestsHaveTheRest : Type 0
RestsHaveTheRest = (publics : LeftPublics) (gone : List ℕ) (m : List Rec) → HasTheRest publics gone m (recs_without publics gone m)

-- Where publics go too, it has exactly those of the other segments.
abbrev pub PublicsAreLeftOut : Type 0
PublicsAreLeftOut = (gone : List ℕ) (m : List Rec) → public_records (recs_without Gone gone m) ≡ filter (λ p. not (is_one_of gone p.segment.item)) (public_records m)
