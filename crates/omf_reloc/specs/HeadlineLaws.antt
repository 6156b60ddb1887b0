-- Laws of the headline, each the contract of a function.
use Rattle.std.specs.Prelude.{◌≡◌, ℕ, List}
use Rattle.omf_frame.specs.Bytes.{AreBytes}
use Rattle.omf_image.specs.Overlay.{byte_at}
use Rattle.omf_check.specs.declared.profile.Profile.{Profile}
use Rattle.omf_placement.specs.Placement.{Places}
use Rattle.omf_frame.specs.Framing.{Raw}
use Rattle.omf_image.specs.Limits.{profile_limits}
use Rattle.omf_check.specs.Uses.{UsesAreDefined}
use Rattle.omf_check.specs.WellFormed.{IsAccepted}
use Rattle.omf_reloc.specs.Headline.{Headline}
use Rattle.omf_reloc.specs.Laws.{AllLieInside}
use Rattle.omf_reloc.specs.declared.headline.Answer.{Answer}
use Rattle.omf_reloc.specs.declared.headline.Answer.TheVariants.{Relocated}

-- Every input and placement have an answer.
abbrev pub AnswersAreThere : Type 0
AnswersAreThere = (profile : Profile) (input : List ℕ) (pl : Places) → AreBytes input → (answer : Answer) × Headline profile input pl answer

-- Two answers are the same: images by their bytes at each offset of each segment.
abbrev pub IsSame : Answer → Answer → Type 0
IsSame (Relocated laid begin) (Relocated other there) = ((segment offset : ℕ) → byte_at laid segment offset ≡ byte_at other segment offset) × (begin ≡ there)
IsSame answer other = answer ≡ other

-- They have no other.
abbrev pub AnswersAreUnique : Type 0
AnswersAreUnique = (profile : Profile) (input : List ℕ) (pl : Places) (answer other : Answer) → Headline profile input pl answer → Headline profile input pl other → IsSame answer other

-- In a module that an input begins with, every index and every thread that is used is defined. At every placement, every byte that is laid is
-- inside its segment, and every byte that a fixup changes is inside its data record.
abbrev pub AcceptedAreSafe : Type 0
AcceptedAreSafe = (profile : Profile) (input : List ℕ) (records : List Raw) (a : IsAccepted profile profile_limits input records)
    → UsesAreDefined a.well_formed.typed_records × ((pl : Places) → AllLieInside pl a.well_formed.typed_records)
