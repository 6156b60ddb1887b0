-- The faults of a record, and which of them is reported.
use denote.Enum.Declared.{tag_of}
use Rattle.std.specs.Prelude.{ℕ, ◌+◌, List, [], ◌∷◌, Option, Some, None, All, Contains, Bool, nat_lt, nat_le, ◌==◌, ◌&&◌, ◌||◌, if◌then◌else◌, IsTrue, codes}
use Rattle.omf_frame.specs.declared.fault.Reason.{Reason}
use Rattle.omf_frame.specs.contracts.fault.Reason.{the_type}
use Rattle.omf_frame.specs.declared.fault.Reason.TheVariants as reason
use Rattle.omf_frame.specs.declared.fault.FrameFault.{FrameFault}
use Rattle.omf_frame.specs.declared.fault.FrameFault.TheVariants as frame

-- The number of a reason: its place in the declaration of Reason, from 1.
abbrev pub reason_number : Reason → ℕ
reason_number r = tag_of the_type r + 1

-- All reasons, in the order of their numbers (this profile's rule): framing, layout, meaning.
abbrev pub reasons : List Reason
reasons = reason.NoEnd ∷ reason.Cut ∷ reason.UnknownType ∷ reason.UnsupportedType ∷ reason.EmptyRecord ∷ reason.Checksum ∷ reason.NoHeader
    ∷ reason.Short ∷ reason.Long ∷ reason.Alignment ∷ reason.BigLength ∷ reason.GroupComponent ∷ reason.CommunalType ∷ reason.CommunalLength
    ∷ reason.FrameMethod ∷ reason.TargetMethod ∷ reason.LocationType ∷ reason.SelfRelative ∷ reason.TooDeep ∷ reason.DataTooLong
    ∷ reason.UndefinedName ∷ reason.UndefinedSegment ∷ reason.UndefinedGroup ∷ reason.UndefinedExternal ∷ reason.UndefinedThread
    ∷ reason.OutsideSegment ∷ reason.OutsideRecord ∷ reason.NoDataRecord ∷ reason.FixupOnIterated ∷ reason.TooMany ∷ reason.OtherDialect
    ∷ reason.VendorComment ∷ reason.StartFrame ∷ []

-- A reason: its name, and what it means.
abbrev pub reason_row : Reason → List ℕ × List ℕ
reason_row reason.NoEnd = (codes "NoEnd", codes "the input ends before a MODEND")
reason_row reason.Cut = (codes "Cut", codes "the input ends inside a record")
reason_row reason.UnknownType = (codes "UnknownType", codes "the record's type is unknown")
reason_row reason.UnsupportedType = (codes "UnsupportedType", codes "the record's type is not read")
reason_row reason.EmptyRecord = (codes "EmptyRecord", codes "the record's length is 0")
reason_row reason.Checksum = (codes "Checksum", codes "the record's checksum is wrong")
reason_row reason.NoHeader = (codes "NoHeader", codes "the first record is no header")
reason_row reason.Short = (codes "Short", codes "a field does not fit into its record")
reason_row reason.Long = (codes "Long", codes "bytes are left over in the record")
reason_row reason.Alignment = (codes "Alignment", codes "the segment's alignment has no meaning")
reason_row reason.BigLength = (codes "BigLength", codes "a Big segment has a length")
reason_row reason.GroupComponent = (codes "GroupComponent", codes "the group's component is no segment")
reason_row reason.CommunalType = (codes "CommunalType", codes "the communal is neither near nor far")
reason_row reason.CommunalLength = (codes "CommunalLength", codes "the communal's length is invalid")
reason_row reason.FrameMethod = (codes "FrameMethod", codes "the frame method is not read")
reason_row reason.TargetMethod = (codes "TargetMethod", codes "the target method is not read")
reason_row reason.LocationType = (codes "LocationType", codes "the location's type is unknown")
reason_row reason.SelfRelative = (codes "SelfRelative", codes "the location cannot be self-relative")
reason_row reason.TooDeep = (codes "TooDeep", codes "blocks are nested too deep")
reason_row reason.DataTooLong = (codes "DataTooLong", codes "repeated data are too long")
reason_row reason.UndefinedName = (codes "UndefinedName", codes "the name is not defined")
reason_row reason.UndefinedSegment = (codes "UndefinedSegment", codes "the segment is not defined")
reason_row reason.UndefinedGroup = (codes "UndefinedGroup", codes "the group is not defined")
reason_row reason.UndefinedExternal = (codes "UndefinedExternal", codes "the external is not defined")
reason_row reason.UndefinedThread = (codes "UndefinedThread", codes "the thread is not set")
reason_row reason.OutsideSegment = (codes "OutsideSegment", codes "data pass the end of their segment")
reason_row reason.OutsideRecord = (codes "OutsideRecord", codes "the location passes the end of its data")
reason_row reason.NoDataRecord = (codes "NoDataRecord", codes "a fixup precedes any data")
reason_row reason.FixupOnIterated = (codes "FixupOnIterated", codes "a fixup applies to repeated data")
reason_row reason.TooMany = (codes "TooMany", codes "a limit of the module's tables is passed")
reason_row reason.OtherDialect = (codes "OtherDialect", codes "the module is of another dialect")
reason_row reason.VendorComment = (codes "VendorComment", codes "a vendor's comment is refused")
reason_row reason.StartFrame = (codes "StartFrame", codes "the start's frame is that of a location")

abbrev pub reason_name : Reason → List ℕ
reason_name r = (reason_row r).0

abbrev pub sentence : Reason → List ℕ
sentence r = (reason_row r).1

-- What a fault of framing means.
abbrev pub framing_sentence : FrameFault → List ℕ
framing_sentence frame.Memory = codes "memory ran out"
framing_sentence (frame.Refused r place) = codes "the input is not framed as a module"

-- a fault of a record: the offset in the record of the field at fault, and the reason
pub record Fault : Type 0 where
  pub within : ℕ
  pub reason : Reason

-- f comes before g: at a smaller offset, or at the same offset with a smaller or equal number
abbrev pub is_before : Fault → Fault → Bool
is_before f g = nat_lt f.within g.within
    || (f.within == g.within) && nat_le (reason_number f.reason) (reason_number g.reason)

-- f is the least of the faults
abbrev pub IsLeast : List Fault → Fault → Type 0
IsLeast fs f = Contains fs f × All (λ g. IsTrue (is_before f g)) fs

-- the least of f and the faults, computed
abbrev pub least_or : Fault → List Fault → Fault
least_or f [] = f
least_or f (g ∷ gs) = if is_before f (least_or g gs) then f else least_or g gs

-- the least of the faults, if there is any
abbrev pub least : List Fault → Option Fault
least [] = None
least (f ∷ fs) = Some (least_or f fs)

-- the faults of the first step that has one
abbrev pub first_step : List (List Fault) → List Fault
first_step [] = []
first_step ([] ∷ steps) = first_step steps
first_step ((f ∷ fs) ∷ steps) = f ∷ fs

-- a condition, and the fault if it does not hold
pub record Rule : Type 0 where
  pub holds : Bool
  pub within : ℕ
  pub reason : Reason

abbrev pub rule : Bool → ℕ → Reason → Rule
rule holds within r = record { holds = holds; within = within; reason = r }

-- the faults of the rules that do not hold
abbrev pub broken : List Rule → List Fault
broken [] = []
broken (r ∷ rules) = if r.holds then broken rules else record { within = r.within; reason = r.reason } ∷ broken rules
