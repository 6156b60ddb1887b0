-- Records, and how they form a module (TIS OMF 1.1, "Object record format" and "Order of records").
use Rattle.omf_frame.specs.declared.kinds.RecordType.TheVariants.{Theadr, Lheadr, Modend}
use Rattle.std.specs.Prelude.{◌≡◌, ℕ, ◌+◌, ◌*◌, ◌-◌, ◌/◌, ◌%◌, ◌<◌, ◌⊎◌, List, [], ◌∷◌, ◌++◌, length, sum, take, drop, All, flat_map, Bool, true, false, not, ◌||◌, ◌==◌, nat_le, IsTrue, slice_index, Option, Some, None, if◌then◌else◌, option_and_then, is_some, slice_get}
use Rattle.omf_frame.specs.Bytes.{is_one_of}
use Rattle.omf_frame.specs.Types.{is_treated, row}
use Rattle.omf_frame.specs.declared.kinds.Treatment.TheVariants.{Read, Carried, Refused}
use Rattle.omf_frame.specs.Fault.{Fault, rule, broken, least, first_step}
use Rattle.omf_frame.specs.declared.fault.Reason.{Reason}
use Rattle.omf_frame.specs.declared.fault.Reason.TheVariants as reason

-- A record: its type byte, its contents and its checksum byte.
pub record Raw : Type 0 where
  pub kind : ℕ
  pub body : List ℕ
  pub checksum : ℕ

-- The bytes of a record: type, length of contents and checksum (2 bytes, little-endian), contents, checksum.
abbrev pub raw_bytes : Raw → List ℕ
raw_bytes r = r.kind ∷ (length r.body + 1) % 256 ∷ (length r.body + 1) / 256 ∷ (r.body ++ r.checksum ∷ [])

-- The checksum byte is 0, or it makes the sum of all bytes 0 modulo 256. A record may be as long as its length field can say (this profile's rule; the
-- standard has 1,024 data bytes at most in an LEDATA).
abbrev pub IsRecord : Raw → Type 0
IsRecord r = (length r.body + 1 < 65536) × ((r.checksum ≡ 0) ⊎ (sum (raw_bytes r) % 256 ≡ 0))

-- The checksum byte that makes the sum 0.
abbrev pub checksum_of : ℕ → List ℕ → ℕ
checksum_of kind body = (256 - sum (raw_bytes (record { kind = kind; body = body; checksum = 0 })) % 256) % 256

-- The record of a type and contents, with that checksum byte.
abbrev pub raw_of : ℕ → List ℕ → Raw
raw_of kind body = record { kind = kind; body = body; checksum = checksum_of kind body }

-- A module may have records of this type: they are read, or kept but not read.
abbrev pub is_taken : ℕ → Bool
is_taken kind = is_treated Read kind || is_treated Carried kind

-- A module begins with a THEADR or an LHEADR, and ends with a MODEND.
abbrev pub is_header : ℕ → Bool
is_header kind = is_one_of ((row Theadr).bytes ++ (row Lheadr).bytes) kind

abbrev pub is_end : ℕ → Bool
is_end kind = is_one_of (row Modend).bytes kind

-- The bytes are these records, of types that a module may have: a header first, a MODEND last and nowhere else.
pub record IsFramed (bytes : List ℕ) (records : List Raw) : Type 0 where
  pub spelled : bytes ≡ flat_map raw_bytes records
  pub each : All IsRecord records
  pub types : All (λ r. IsTrue (is_taken r.kind)) records
  pub first : IsTrue (is_header (slice_index bytes 0))
  pub last : (front : List Raw) × (end : Raw) × (records ≡ front ++ end ∷ []) × IsTrue (is_end end.kind) × All (λ r. IsTrue (not (is_end r.kind))) front

-- The bytes present of the record at the front.
abbrev pub present : List ℕ → List ℕ
present (t ∷ lo ∷ hi ∷ bytes) = t ∷ lo ∷ hi ∷ take (lo + 256 * hi) bytes
present bytes = bytes

-- All bytes of the record at the front are present.
abbrev pub is_whole : List ℕ → Bool
is_whole (t ∷ lo ∷ hi ∷ bytes) = nat_le (lo + 256 * hi) (length bytes)
is_whole _ = false

-- The bytes after the record at the front.
abbrev pub after_front : List ℕ → List ℕ
after_front (t ∷ lo ∷ hi ∷ bytes) = drop (lo + 256 * hi) bytes
after_front _ = []

-- The number of bytes up to the next check of the record: its type byte, its length bytes, its end.
abbrev pub wanted : List ℕ → ℕ
wanted [] = 1
wanted (t ∷ []) = 2
wanted (t ∷ lo ∷ []) = 1
wanted (t ∷ lo ∷ hi ∷ bytes) = lo + 256 * hi - length bytes

-- The number in the two length bytes.
abbrev pub stated_length : List ℕ → ℕ
stated_length (t ∷ lo ∷ hi ∷ bytes) = lo + 256 * hi
stated_length _ = 0

-- The record whose bytes are present.
abbrev pub front_record : List ℕ → Raw
front_record (t ∷ lo ∷ hi ∷ bytes) = record { kind = t; body = take (lo + 256 * hi - 1) bytes; checksum = slice_index bytes (lo + 256 * hi - 1) }
front_record bytes = record { kind = slice_index bytes 0; body = []; checksum = 0 }

-- The faults of a type byte.
abbrev pub type_faults : ℕ → List Fault
type_faults kind = broken (rule (is_taken kind || (is_treated Refused kind)) 0 reason.UnknownType ∷ rule (not (is_treated Refused kind)) 0 reason.UnsupportedType ∷ [])

-- The framing faults of the bytes present of one record, in the order of the checks: the input ends before the record, the type
-- byte, the input ends inside the record, a length of 0, the checksum, a first record that is not a header.
abbrev pub frame_steps : Bool → List ℕ → List (List Fault)
frame_steps is_first bytes = broken (rule (is_some (slice_get bytes 0)) 0 reason.NoEnd ∷ [])
    ∷ type_faults (slice_index bytes 0)
    ∷ broken (rule (is_whole bytes) (length bytes) reason.Cut ∷ [])
    ∷ broken (rule (not (stated_length bytes == 0)) 1 reason.EmptyRecord ∷ [])
    ∷ broken (rule ((slice_index bytes (2 + stated_length bytes) == 0) || (sum bytes % 256 == 0)) (2 + stated_length bytes) reason.Checksum ∷ [])
    ∷ broken (rule (not is_first || is_header (slice_index bytes 0)) 0 reason.NoHeader ∷ [])
    ∷ []

-- The framing fault: the first of them.
abbrev pub frame_fault : Bool → List ℕ → Option Fault
frame_fault is_first bytes = least (first_step (frame_steps is_first bytes))

-- More input can remove this fault.
abbrev pub is_end_of_input : Reason → Bool
is_end_of_input reason.NoEnd = true
is_end_of_input reason.Cut = true
is_end_of_input _ = false

-- The framing fault, if more input cannot remove it.
abbrev pub standing_fault : Bool → List ℕ → Option Fault
standing_fault is_first bytes = option_and_then (λ f. if is_end_of_input f.reason then None else Some f) (frame_fault is_first bytes)

-- The bytes begin with a complete record.
pub record HasFront (bytes : List ℕ) : Type 0 where
  pub is_record : IsRecord (front_record (present bytes))
  pub whole : raw_bytes (front_record (present bytes)) ≡ present bytes
  pub parts : bytes ≡ present bytes ++ after_front bytes
  pub shorter : length (after_front bytes) < length bytes

-- the size in bytes of the record at the front; 3 until both length bytes are present
abbrev pub record_len : List ℕ → ℕ
record_len [] = 3
record_len (t ∷ []) = 3
record_len (t ∷ lo ∷ []) = 3
record_len (t ∷ lo ∷ hi ∷ rest) = 3 + (lo + 256 * hi)
