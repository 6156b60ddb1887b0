-- Names for parts of definitions, used in proofs and in contracts of private functions.

use Rattle.std.specs.Prelude.{◌++◌, ℕ, List, flat_map, length, map, unwrap_or, ◌+◌, Bool, [], slice_get, is_none}
use Rattle.omf_frame.specs.Fault.{Fault, Rule}
use Rattle.omf_frame.specs.Framing.{frame_steps, Raw, front_record, raw_bytes, is_end_of_input}
use Rattle.omf_check.specs.declared.profile.Profile.{Profile}
use Rattle.omf_image.specs.declared.limits.Limits.{Limits}
use Rattle.omf_check.specs.Inner.Faults.{record_steps}
use Rattle.omf_check.specs.Refusal.{fault_from}
use Rattle.omf_image.specs.Inner.Expanding.{block_faults, length_faults}
use Rattle.omf_frame.specs.declared.fault.Place.{Place}
use Rattle.omf_records.specs.Values.{Subrecord, Rec, At, SegmentItem, Contents, Iterated, width}
use Rattle.omf_check.specs.Rules.{subrecord_rules_at}
use Rattle.omf_check.specs.declared.segment.SegInfo.{SegInfo}
use Rattle.omf_check.specs.Tables.{segment_length}
use Rattle.omf_check.specs.declared.method.FrameMethod.{FrameMethod}
use Rattle.omf_records.specs.Methods.{frame_code, kind_of}
use Rattle.omf_check.specs.Threads.{Setting, frame_by}
use Rattle.omf_check.specs.declared.method.TargetMethod.{TargetMethod}
use Rattle.omf_check.specs.WellFormed.{IsWellFormed}
use Rattle.omf_image.specs.Limits.{profile_limits}
use Rattle.omf_frame.specs.declared.fault.Reason.{Reason}

-- there is no record before
abbrev pub is_empty : List Raw → Bool
is_empty before = is_none (slice_get before 0)

-- The faults of the bytes present of one record after these records, by step: those of framing first.
abbrev pub steps : Profile → Limits → List Raw → List ℕ → List (List Fault)
steps profile limits before bytes = frame_steps (is_empty before) bytes ++ record_steps profile limits before (front_record bytes)

-- The place of a fault in the input.
abbrev pub place_after : List Raw → Fault → Place
place_after before f = record { number = length before; start = length (flat_map raw_bytes before); within = f.within }

abbrev pub subrecord_rules : List Rec → List (At Subrecord) → At Subrecord → List Rule
subrecord_rules before earlier s = subrecord_rules_at before (map (λ e. e.item) earlier) s.within s.item

abbrev pub segment_info : ℕ → SegmentItem → SegInfo
segment_info kind s = record { length = segment_length kind s; absolute = s.absolute; name = s.name.item; class = s.class.item }

abbrev pub frame_from : Setting → FrameMethod
frame_from s = frame_by (frame_code s.method) (unwrap_or s.datum 0)

abbrev pub target_from : Setting → TargetMethod
target_from s = record { kind = kind_of s.method; index = unwrap_or s.datum 0 }

-- The bytes taken are a module and nothing else.
abbrev pub IsModule : Profile → List ℕ → Type 0
IsModule profile bytes = (records : List Raw) × IsWellFormed profile profile_limits bytes records

-- Whether the reason is that the input ends too early. More bytes can remove such a refusal.
abbrev pub may_go_on : Reason → Bool
may_go_on why = is_end_of_input why

abbrev pub moved : ℕ → List Fault → List Fault
moved at fs = map (fault_from at) fs

abbrev pub short_or_deep : Limits → ℕ → Contents → List Fault
short_or_deep limits kind (Iterated d) = moved (d.offset.within + width kind) (block_faults (width kind) limits d.bytes)
short_or_deep limits kind _ = []

abbrev pub too_long : Limits → ℕ → Contents → List Fault
too_long limits kind (Iterated d) = moved (d.offset.within + width kind) (length_faults (width kind) limits d.bytes)
too_long limits kind _ = []
