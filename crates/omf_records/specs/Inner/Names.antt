-- Names for parts of definitions, used in proofs and in contracts of private functions.

use Rattle.omf_records.specs.Layout.{called, Layout, when, index, with_place, communal_length, byte, name, many}
use Rattle.omf_records.specs.Values.{Fixup, Subrecord, Thread, thread_method, CommunalSize, Near, Communals, Contents, Externs, Fixups, Names, alignment, is_big, frame_bits, frame_by_thread, target_by_thread, target_bits, width}
use Rattle.std.specs.Prelude.{ℕ, Bool, nat_lt, ◌==◌, List, ◌∷◌, ◌≡◌, ◌<◌, ◌≤◌, ◌⊎◌, ◌/◌, ◌%◌, nat_le, ◌||◌, is_some, not, ◌&&◌, ◌*◌, ◌++◌, [], if◌then◌else◌}
use Rattle.omf_records.specs.Entries.{reference, unless, wrong_location, wrong_thread, communal, external, subrecord}
use Rattle.omf_frame.specs.declared.fault.Reason.{Reason}
use Rattle.omf_frame.specs.declared.fault.Reason.TheVariants as reason
use Rattle.omf_frame.specs.Bytes.{is_one_of, has_bit, bits}
use Rattle.omf_records.specs.Location.{location_of, location, row_of}
use Rattle.omf_records.specs.declared.location.LocationType.{LocationType}
use Rattle.byteorder.specs.Endian.{little_bytes}

abbrev pub fixup : Bool → ℕ → Layout Subrecord
fixup wide locat = called (reference wide) (Fixup locat)

abbrev pub thread : ℕ → Layout Subrecord
thread b = called (when (nat_lt (thread_method b) 3) (with_place index)) (Thread b)

abbrev pub near_size : Layout CommunalSize
near_size = called communal_length Near

-- GRPDEF: the component byte FFH, and a segment index (other components are refused: this profile's rule).
abbrev pub wrong_component : ℕ → List Reason
wrong_component c = unless (c == 0xFF) reason.GroupComponent

-- COMDEF: a name, a type index, and the data type 62H (near) and a length, or 61H (far), the number of elements and their size. Other data types
-- (01H to 5FH, the segment indices of one vendor) are refused: this profile's rule.
abbrev pub wrong_data_type : ℕ → List Reason
wrong_data_type t = unless (is_one_of (0x61 ∷ 0x62 ∷ []) t) reason.CommunalType

-- FIXUPP: a THREAD or a FIXUP.
abbrev pub wrong_head : ℕ → List Reason
wrong_head h = if nat_lt h 128 then wrong_thread h else wrong_location h

abbrev pub IsByte : ℕ → List ℕ → Type 0
IsByte n bytes = (n < 256) × (bytes ≡ n ∷ [])

-- One byte below 128, or two bytes, high byte first, with bit 7 of the first set. All other bytes are too short.
abbrev pub IsHead : ℕ → List ℕ → Type 0
IsHead n bytes = ((n < 128) × (bytes ≡ n ∷ [])) ⊎ ((32768 ≤ n) × (n < 65536) × (bytes ≡ n / 256 ∷ n % 256 ∷ []))

-- The first byte of a communal length is at most 128, or 81H, 84H, 88H. Any other is refused, whatever follows.
abbrev pub begins_length : ℕ → Bool
begins_length a = nat_le a 128 || is_one_of (0x81 ∷ 0x84 ∷ 0x88 ∷ []) a

abbrev pub is_location : ℕ → Bool
is_location n = is_some (location_of n)

abbrev pub location_number : LocationType → ℕ
location_number t = (location t).number

-- The size in bytes of a location of a type.
abbrev pub location_size : ℕ → ℕ
location_size n = (row_of n).size

-- The number of bits of the offset in a location.
abbrev pub offset_bits : ℕ → ℕ
offset_bits n = (row_of n).offset_bits

-- The number of bits of a self-relative offset.
abbrev pub self_relative_bits : ℕ → ℕ
self_relative_bits n = (row_of n).self_relative_bits

-- Whether a self-relative fixup may have the type.
abbrev pub may_be_self_relative : ℕ → Bool
may_be_self_relative n = (row_of n).may_be_self_relative

-- COMDEF, LCOMDEF: communal names to the end.
abbrev pub communals : Layout Contents
communals = called (many communal) Communals

-- EXTDEF, LEXTDEF: external names to the end.
abbrev pub externs : Layout Contents
externs = called (many external) Externs

-- FIXUPP: subrecords to the end.
abbrev pub fixups : Bool → Layout Contents
fixups wide = called (many (subrecord wide)) Fixups

-- LNAMES, LLNAMES: names to the end.
abbrev pub names : Layout Contents
names = called (many name) Names

-- SEGDEF: attribute byte; frame number and offset of an absolute segment; length; name, class and overlay index. Alignments
-- 6 and 7 are refused (this profile's rule), and a length other than 0 if the segment is Big.
abbrev pub wrong_alignment : ℕ → List Reason
wrong_alignment attribute = unless (nat_lt (alignment attribute) 6) reason.Alignment

abbrev pub wrong_size : ℕ → ℕ → List Reason
wrong_size attribute size = unless (not (is_big attribute) || (size == 0)) reason.BigLength

-- Whether a frame datum, and a target datum, follows the fix data byte.
abbrev pub has_frame_datum : ℕ → Bool
has_frame_datum fix = not (frame_by_thread fix) && nat_lt (frame_bits fix) 3

abbrev pub has_target_datum : ℕ → Bool
has_target_datum fix = not (target_by_thread fix) && nat_lt (target_bits fix) 3

-- MODEND's type byte: whether there is a start address.
abbrev pub has_start : ℕ → Bool
has_start byte = has_bit byte 6

abbrev pub thread_number : ℕ → ℕ
thread_number byte = bits byte 0 2

abbrev pub frame_thread : ℕ → ℕ
frame_thread fix = bits fix 4 2

abbrev pub width_bits : ℕ → ℕ
width_bits kind = 8 * width kind

abbrev pub has_no_displacement : ℕ → Bool
has_no_displacement fix = has_bit fix 2

-- the frame number and offset of an absolute segment
abbrev pub absolute_bytes : ℕ × ℕ → List ℕ
absolute_bytes a = little_bytes 2 a.0 ++ a.1 ∷ []
