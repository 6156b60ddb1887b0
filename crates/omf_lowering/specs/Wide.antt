-- The records of an input that is lowered (TIS OMF 1.1, "Object record format"): of all types of the standard, whether this profile reads them or not.
use Rattle.std.specs.Prelude.{ℕ, ◌+◌, ◌*◌, ◌%◌, sum, List, [], ◌∷◌, length, Bool, ◌||◌, ◌==◌, nat_lt, Option, Some, None, is_some, if◌then◌else◌}
use Rattle.omf_frame.specs.Fault.{Fault}
use Rattle.omf_frame.specs.Framing.{Raw, raw_bytes, front_record}
use Rattle.omf_frame.specs.Types.{type_of}
use Rattle.omf_frame.specs.declared.fault.Reason.TheVariants as reason
use Rattle.omf_records.specs.Layout.{fault}

-- The type is one of the standard.
abbrev pub is_known : ℕ → Bool
is_known kind = is_some (type_of kind)

-- The checksum byte is 0, or it makes the sum of all bytes 0 modulo 256.
abbrev pub is_right : Raw → Bool
is_right r = (r.checksum == 0) || (sum (raw_bytes r) % 256 == 0)

-- The fault of a record of a known type, by its length and its checksum: the input ends inside it, its length is 0, its checksum byte is wrong.
abbrev pub length_fault : List ℕ → Option Fault
length_fault (kind ∷ low ∷ high ∷ bytes) =
    if nat_lt (length bytes) (low + 256 * high) then Some (fault (3 + length bytes) reason.Cut)
    else if low + 256 * high == 0 then Some (fault 1 reason.EmptyRecord)
    else if is_right (front_record (kind ∷ low ∷ high ∷ bytes)) then None
    else Some (fault (2 + (low + 256 * high)) reason.Checksum)
length_fault bytes = Some (fault (length bytes) reason.Cut)

-- The framing fault of the record at the front of these bytes, if it has one: there is none, its type is unknown, or it has a fault of length or checksum.
abbrev pub framing_fault : List ℕ → Option Fault
framing_fault [] = Some (fault 0 reason.NoEnd)
framing_fault (kind ∷ bytes) = if is_known kind then length_fault (kind ∷ bytes) else Some (fault 0 reason.UnknownType)
