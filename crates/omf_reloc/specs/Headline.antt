-- The headline: the answer to an input and a placement.
use Rattle.std.specs.Prelude.{◌≡◌, ◌⊎◌, ◌≤◌, ⊤, ℕ, ◌+◌, ◌*◌, List, length, Option, Some, Result, Err}
use Rattle.std.specs.Io.KnownBytes.{Consumes}
use Rattle.omf_frame.specs.Device.{Device, GivesUp}
use Rattle.omf_frame.specs.Framing.{Raw}
use Rattle.omf_records.specs.Values.{Rec}
use Rattle.omf_image.specs.Limits.{profile_limits}
use Rattle.omf_image.specs.Overlay.{byte_at}
use Rattle.omf_check.specs.Checking.{IsCheckFault, IsReadTo}
use Rattle.omf_check.specs.Refusal.{IsRefused}
use Rattle.omf_check.specs.WellFormed.{IsAccepted, IsWellFormed, recs}
use Rattle.omf_check.specs.declared.fault.CheckFault.TheVariants as check
use Rattle.omf_check.specs.declared.profile.Profile.{Profile}
use Rattle.omf_placement.specs.Placement.{Places}
use Rattle.omf_reloc.specs.Image.{image, start}
use Rattle.omf_reloc.specs.Laws.{AllReach}
use Rattle.omf_reloc.specs.Reach.{Reaches, reach_fault}
use Rattle.omf_reloc.specs.declared.headline.Answer.{Answer}
use Rattle.omf_reloc.specs.declared.headline.Answer.TheVariants.{Refused, DoesNotReach, Relocated}
use Rattle.omf_reloc.specs.declared.headline.AnswerAt.{AnswerAt}
use Rattle.omf_reloc.specs.declared.headline.AnswerAt.TheVariants as at
use Rattle.omf_reloc.specs.declared.headline.NoAnswer.{NoAnswer}
use Rattle.omf_reloc.specs.declared.headline.NoAnswer.TheVariants.{Memory, Read}

-- A module is relocated: its placement reaches; the image has the defined byte, or none, at each offset of each segment; and the start is the
-- defined one.
pub record IsRelocated (pl : Places) (records : List Raw) (laid : ℕ → ℕ → Option ℕ) (begin : Option (ℕ × ℕ)) : Type 0 where
  pub reaches : Reaches pl (recs records)
  pub bytes : (segment offset : ℕ) → laid segment offset ≡ image profile_limits pl (recs records) segment offset
  pub begins : begin ≡ start pl (recs records)

-- A module has this image and this start at a placement: the placement reaches; the image has the defined byte, or none, at each offset of each
-- segment; and the start is the defined one.
pub record HasImage (pl : Places) (m : List Rec) (laid : ℕ → ℕ → Option ℕ) (begin : Option (ℕ × ℕ)) : Type 0 where
  pub reaches : AllReach pl m
  pub bytes : (segment offset : ℕ) → laid segment offset ≡ image profile_limits pl m segment offset
  pub begins : begin ≡ start pl m

-- The answer to a module and a placement: the module is relocated exactly if the placement reaches; or else the answer is the first reason why
-- it does not.
abbrev pub IsAnswerAt : Places → List Raw → AnswerAt → Type 0
IsAnswerAt pl records (at.DoesNotReach fault) = reach_fault pl (recs records) ≡ Some fault
IsAnswerAt pl records (at.Relocated laid begin) = IsRelocated pl records (byte_at laid) begin

-- An input is refused exactly if it begins with no well-formed module. If it begins with one, it is relocated exactly if the placement reaches.
abbrev pub IsAnswer : Profile → List ℕ → Places → Answer → Type 0
IsAnswer profile input pl (Refused reason place) = (records : List Raw) → IsAccepted profile profile_limits input records → ⊥
IsAnswer profile input pl (DoesNotReach fault) = (records : List Raw) × (a : IsAccepted profile profile_limits input records) × (AllReach pl a.well_formed.typed_records → ⊥)
IsAnswer profile input pl (Relocated laid begin) = (records : List Raw) × (a : IsAccepted profile profile_limits input records)
    × HasImage pl a.well_formed.typed_records (byte_at laid) begin

-- The reason of a refusal is the first, at its place; the fault of a placement is the first reason why it does not reach.
abbrev pub HasReason : Profile → List ℕ → Places → Answer → Type 0
HasReason profile input pl (Refused reason place) = IsRefused profile profile_limits input reason place
HasReason profile input pl (DoesNotReach fault) = (records : List Raw) × (a : IsAccepted profile profile_limits input records)
    × (reach_fault pl a.well_formed.typed_records ≡ Some fault)
HasReason profile input pl (Relocated laid begin) = ⊤

-- The theorem: the answer is right, and so is its reason.
pub record Headline (profile : Profile) (input : List ℕ) (pl : Places) (answer : Answer) : Type 0 where
  pub answers : IsAnswer profile input pl answer
  pub reasons : HasReason profile input pl answer

-- Exactly a well-formed module of these records is read. Before each byte, and before the end, at most a thousand failures are passed over.
pub record IsModuleRead (profile : Profile) (old new : Device) (records : List Raw) : Type 0 where
  pub bytes : List ℕ
  pub read : Consumes old.bytes new.bytes bytes
  pub well_formed : IsWellFormed profile profile_limits bytes records
  pub bounded : new.failures ≤ old.failures + 1000 * (length bytes + 1)

-- The bytes that are read for an answer: they are refused, and no more is read than this needs; or they are a module, and the answer is the answer
-- for it.
abbrev pub IsReadAs : Profile → Places → Device → Device → Answer → Type 0
IsReadAs profile pl old new (Refused reason place) = (read : List ℕ) × Consumes old.bytes new.bytes read × IsReadTo profile read new.bytes reason place
IsReadAs profile pl old new (DoesNotReach fault) = (records : List Raw) × IsModuleRead profile old new records × IsAnswerAt pl records (at.DoesNotReach fault)
IsReadAs profile pl old new (Relocated laid begin) = (records : List Raw) × IsModuleRead profile old new records × IsAnswerAt pl records (at.Relocated laid begin)

-- Why there is no answer: the reader failed, or memory ran out. The bytes read then have no refusal other than for ending too early; or, if memory
-- ran out, they are a module that the placement reaches.
abbrev pub IsAside : Profile → Places → Device → Device → NoAnswer → Type 0
IsAside profile pl old new Read = IsCheckFault profile old.bytes new.bytes old.failures new.failures check.Read
IsAside profile pl old new Memory = IsCheckFault profile old.bytes new.bytes old.failures new.failures check.Memory
    ⊎ ((records : List Raw) × IsModuleRead profile old new records × Reaches pl (recs records))

-- Only interruptions of the reader are retried: Read means one failure of another kind, or a thousand interruptions; otherwise the reader had no
-- failure but interruptions.
abbrev pub ReadsPatiently : Device → Device → Result Answer NoAnswer → Type 0
ReadsPatiently old new (Err Read) = GivesUp old new
ReadsPatiently old new _ = new.breaks ≡ old.breaks
