-- Which reasons of this profile a lowering may mend, so that what a refused module is shown for is its lowering's fault (this profile's rule).
use Rattle.std.specs.Prelude.{◌==◌, ◌||◌, Bool, if◌then◌else◌}
use Rattle.omf_frame.specs.Fault.{reason_number}
use Rattle.omf_frame.specs.declared.fault.Reason.{Reason}
use Rattle.omf_frame.specs.declared.fault.Reason.TheVariants.{Alignment, CommunalType, FixupOnIterated, FrameMethod, TargetMethod, UnsupportedType}

-- What a lowering mends: a record type, a communal in a segment, a fixup of repeated data, an alignment of 6 or 7, a frame by number.
abbrev pub is_mendable : Reason → Bool
is_mendable why =
    let is : Reason → Bool = λ r. reason_number why == reason_number r in
    ((((is UnsupportedType || is CommunalType) || is FixupOnIterated) || is Alignment) || is FrameMethod) || is TargetMethod

-- What is shown of a module that is refused for this reason, and whose lowering has a fault: that fault, if a lowering may mend the reason; else its own.
abbrev pub shown : {F : Type 0} → Reason → F → F → F
shown why own lowering = if is_mendable why then lowering else own
