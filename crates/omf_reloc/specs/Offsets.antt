-- The offset of a reference in its frame, and whether it reaches (TIS OMF 1.1, "FIXUPP"; readings, ranges and causes are this profile's rule).
use Rattle.std.specs.Result.{result_map_both}
use Rattle.std.specs.Prelude.{ℕ, ◌+◌, ◌-◌, ◌^◌, List, [], ◌∷◌, filter, filter_map, Bool, true, ◌==◌, ◌&&◌, nat_le, nat_lt, Option, Some, None, option_and_then, Result, Ok, Err, if◌then◌else◌, ◌*◌, ok_or, slice_get}
use Rattle.std.specs.Option.{option_zip, option_map_or}
use Rattle.omf_reloc.specs.declared.fault.Cause.{Cause}
use Rattle.omf_reloc.specs.declared.fault.Cause.TheVariants as cause
use Rattle.omf_frame.specs.Bytes.{difference}
use Rattle.omf_records.specs.Values.{DataItem, location_type, location_offset, is_segment_relative, width}
use Rattle.omf_records.specs.Location.{location, row_of}
use Rattle.omf_check.specs.Tables.{entry}
use Rattle.omf_check.specs.Threads.{PlainReference}
use Rattle.omf_image.specs.Parts.{Addition}
use Rattle.omf_reloc.specs.Plain.{PlainFixup}
use Rattle.omf_reloc.specs.Additions.{self_relative_additions, type_of_number, additions_at}
use Rattle.omf_placement.specs.declared.frame.Frame.{Frame}
use Rattle.omf_placement.specs.declared.frame.Placed.{Placed}
use Rattle.omf_placement.specs.Placement.{Places, place_of, frame_by}

-- The readings of an n-bit displacement u, in order: u, and u - 2^n if its top bit is set. Each is given by what it subtracts from u.
abbrev pub readings : ℕ → ℕ → List ℕ
readings n u = 0 ∷ (if nat_le (2 ^ (n - 1)) u then 2 ^ n ∷ [] else [])

-- The offsets from the readings: the target's address plus the reading, minus the frame's base; only those that are not negative and fit in
-- w bits.
abbrev pub offsets : ℕ → ℕ → ℕ → ℕ → ℕ → List ℕ
offsets w n address u base = filter (λ o. nat_lt o (2 ^ w)) (filter_map (λ less. difference (address + u) (base + less)) (readings n u))

-- A short jump (type 0) reaches from 128 bytes before the byte after its location to 127 bytes after that byte.
abbrev pub is_near : ℕ → ℕ → ℕ → Bool
is_near t location o = if t == 0 then nat_le (location + 1) (o + 128) && nat_le o (location + 128) else true

-- An offset, if it fits in w bits.
abbrev pub in_bits : ℕ → Option ℕ → Option ℕ
in_bits w offset = option_and_then (λ l. if nat_lt l (2 ^ w) then Some l else None) offset

-- The additions of a segment-relative fixup: of a base (type 2) whatever the offset; of any other by the first offset in range, or else the
-- cause is Target.
abbrev pub in_frame : ℕ → ℕ → List ℕ → Result (List Addition) Cause
in_frame t selector os = if t == 2 then Ok (additions_at (type_of_number t) 0 selector) else result_map_both (λ o. additions_at (type_of_number t) o selector) (λ c. c) (ok_or (slice_get os 0) cause.Target)

-- The additions of a self-relative fixup: some reading has its offset in range, or else the cause is Target; the location's offset is in
-- range, or else Location; and the first of those offsets that is near enough counts, or else Distance.
abbrev pub from_location : ℕ → List ℕ → Option ℕ → Result (List Addition) Cause
from_location t [] l = Err cause.Target
from_location t (o ∷ os) None = Err cause.Location
from_location t (o ∷ os) (Some l) = result_map_both (λ near. self_relative_additions t near l) (λ c. c) (ok_or (slice_get (filter (is_near t l) (o ∷ os)) 0) cause.Distance)

-- The frame that a reference names, and the place of its target. F4 is the frame of the segment `location`. None if the placement has no
-- entry for one of them; then nothing reaches, and the cause is Target.
abbrev pub named : Places → ℕ → PlainReference → Option (Frame × Placed)
named pl location r = option_zip (frame_by pl location r.target r.frame) (place_of pl r.target)

-- The additions of a fixup in this frame, in a FIXUPP of type f.0, for a target at this address; or the cause why it does not reach. The
-- fixup is in a data record at an offset of the segment at `here`. The displacement has the width of the FIXUPP, the offset the width of the
-- location.
abbrev pub additions_in : Option Placed → ℕ → ℕ × PlainFixup → Frame → ℕ → Result (List Addition) Cause
additions_in here offset f frame address =
    let t = location_type f.1.locat in
    let u = f.1.reference.displacement in
    let location = option_and_then (λ p. difference (p.address + offset + location_offset f.1.locat) frame.base) here in
    if is_segment_relative f.1.locat
    then in_frame t frame.selector (offsets ((row_of t).offset_bits) (8 * width f.0) address u frame.base)
    else from_location t (offsets ((row_of t).self_relative_bits) (8 * width f.0) address u frame.base) (in_bits ((row_of t).self_relative_bits) location)

abbrev pub outcome_at : Places → ℕ → ℕ → ℕ × PlainFixup → Result (List Addition) Cause
outcome_at pl segment offset f = option_map_or (λ x. additions_in (entry pl.segments segment) offset f x.0 x.1.address) (named pl segment f.1.reference) (Err cause.Target)

abbrev pub outcome : Places → DataItem → ℕ × PlainFixup → Result (List Addition) Cause
outcome pl d f = outcome_at pl d.segment.item d.offset.item f

-- The selector and the offset of a start in its frame: its offset and its displacement have 16 bits in 8AH and 32 bits in 8BH. The frame
-- of a start is not F4, so no data record matters.
abbrev pub start_outcome : Places → ℕ → PlainReference → Result (ℕ × ℕ) Cause
start_outcome pl kind r = option_map_or (λ x. result_map_both (λ o. (x.0.selector, o)) (λ c. c) (ok_or (slice_get (offsets (8 * width kind) (8 * width kind) x.1.address r.displacement x.0.base) 0) cause.Target))
    (named pl 0 r) (Err cause.Target)
