-- Frames named by their numbers, and the absolute segments in their place.
use Rattle.std.specs.Prelude.{◌≡◌, ◌<◌, ℕ, ◌+◌, ◌-◌, ◌/◌, ◌%◌, ◌==◌, ◌||◌, ◌&&◌, not, nat_le, sum, Bool, false, true, List, [], ◌∷◌, ◌++◌, length, map, flat_map, take, drop, fold, slice_index, Option, Some, None, option_map, Result, Ok, Err, is_ok, if◌then◌else◌}
use Rattle.std.specs.List.{filter, list_any}
use Rattle.byteorder.specs.Endian.{little_bytes}
use Rattle.omf_frame.specs.Bytes.{is_one_of}
use Rattle.omf_frame.specs.Fields.{index_bytes}
use Rattle.omf_frame.specs.Fault.{Fault}
use Rattle.omf_frame.specs.Framing.{Raw, is_end, is_whole, raw_bytes, raw_of, stated_length}
use Rattle.omf_frame.specs.Types.{row}
use Rattle.omf_frame.specs.declared.kinds.RecordType.TheVariants.{Fixupp, Segdef}
-- computed: readings_meet_layouts of omf_records.
use Rattle.omf_records.specs.Inner.Reading.{read_body}
use Rattle.omf_records.specs.Inner.Reads.{or_none}
use Rattle.omf_records.specs.Shortest.{option_bytes, segment_bytes}
use Rattle.omf_records.specs.Values.{At, SegmentItem, is_wide, nowhere, width}
-- computed: readings_meet_layouts of omf_explicit.
use Rattle.omf_explicit.specs.Inner.Readers.{fixupp_whole, start_whole}
use Rattle.omf_explicit.specs.declared.part.Datum.{Datum}
use Rattle.omf_explicit.specs.declared.part.Datum.TheVariants as datums
use Rattle.omf_explicit.specs.declared.part.Part.{Part}
use Rattle.omf_explicit.specs.declared.part.Part.TheVariants as parts
use Rattle.omf_explicit.specs.declared.part.Reference.{Reference}

-- ---- the frame numbers of a module

abbrev pub is_fixupp : ℕ → Bool
is_fixupp kind = is_one_of (row Fixupp).bytes kind

abbrev pub is_segdef : ℕ → Bool
is_segdef kind = is_one_of (row Segdef).bytes kind

-- The checksum byte is 0, or it makes the sum of all bytes 0 modulo 256.
abbrev pub is_right : Raw → Bool
is_right r = (r.checksum == 0) || (sum (raw_bytes r) % 256 == 0)

-- This profile reads the record's contents: all its methods are of this profile.
abbrev pub is_read : Raw → Bool
is_read r = is_ok (read_body r.kind r.body)

-- A FIXUPP or MODEND that this profile does not read may have frame numbers. (With a wrong checksum byte it stays, and so is refused.)
abbrev pub is_changed : Raw → Bool
is_changed r = (is_fixupp r.kind || is_end r.kind) && (is_right r && not (is_read r))

-- The THREADs and FIXUPs of a FIXUPP, or the one part of a MODEND; none if the contents have a fault, even with frame numbers.
abbrev pub placed : Result Part Fault → List (At Part)
placed (Ok p) = record { within = 3; item = p } ∷ []
placed (Err e) = []

abbrev pub parts_read : Raw → List (At Part)
parts_read r = if is_end r.kind then placed ((start_whole (is_wide r.kind)).read 3 r.body) else or_none ((fixupp_whole (is_wide r.kind)).read 3 r.body)

abbrev pub parts_of : Raw → List (At Part)
parts_of r = if is_changed r then parts_read r else []

-- The frame number of a datum, and those of a reference: of its frame, and then of its target.
abbrev pub number_in : Option Datum → List ℕ
number_in (Some (datums.Number n)) = n ∷ []
number_in _ = []

abbrev pub numbers_in_reference : Reference → List ℕ
numbers_in_reference r = number_in r.frame ++ number_in r.target

abbrev pub numbers_in : Part → List ℕ
numbers_in (parts.Thread first datum) = number_in datum
numbers_in (parts.Fixup location r) = numbers_in_reference r
numbers_in (parts.Start first (Some r)) = numbers_in_reference r
numbers_in (parts.Start first None) = []

-- The frame numbers of a record, and of records, as often as they are named.
abbrev pub numbers_of : Raw → List ℕ
numbers_of r = flat_map (λ p. numbers_in p.item) (parts_of r)

abbrev pub numbers : List Raw → List ℕ
numbers rs = flat_map numbers_of rs

-- Numbers, each once, in the order in which they come first: a number that is not there is added at the end.
abbrev pub with_number : List ℕ → ℕ → List ℕ
with_number ns n = if is_one_of ns n then ns else ns ++ n ∷ []

abbrev pub distinct : List ℕ → List ℕ
distinct ns = fold with_number [] ns

-- The place of a number among others, from 1; 0 if it is not there.
abbrev pub one_more : ℕ → ℕ
one_more place = if place == 0 then 0 else place + 1

abbrev pub place_in : List ℕ → ℕ → ℕ
place_in [] n = 0
place_in (m ∷ ns) n = if m == n then 1 else one_more (place_in ns n)

-- A table has the place of each number of 16 bits.
pub record ArePlaces (ns places : List ℕ) : Type 0 where
  pub count : length places ≡ 65536
  pub each : (n : ℕ) → n < 65536 → slice_index places n ≡ place_in ns n

-- ---- segments in place of frames

-- The number of a module's own segments, and the frame numbers that get segments after them.
pub record Frames : Type 0 where
  pub count : ℕ
  pub numbers : List ℕ

-- The absolute segment of a frame: the frame's number, offset 0, 64 KB (a length of 0 with the Big bit), and no names (TIS OMF 1.1, "SEGDEF").
abbrev pub segment_item : ℕ → SegmentItem
segment_item n = record { attribute = 0x02; absolute = Some (n, 0); size = 0; name = nowhere 0; class = nowhere 0; overlay = 0 }

abbrev pub segment : ℕ → Raw
segment n = raw_of 0x98 (segment_bytes 0x98 (segment_item n))

-- A datum with the index of the frame's segment in place of the frame's number.
abbrev pub plain_datum : Frames → Datum → Datum
plain_datum f (datums.Number n) = datums.Index (f.count + place_in f.numbers n)
plain_datum f (datums.Index i) = datums.Index i

abbrev pub plain_if : Frames → Option Datum → Option Datum
plain_if f datum = option_map (plain_datum f) datum

abbrev pub is_number : Option Datum → Bool
is_number (Some (datums.Number n)) = true
is_number _ = false

-- A byte without these bits, which it has set, if the datum is a frame number: method 3 becomes method 0.
abbrev pub without : ℕ → ℕ → Option Datum → ℕ
without byte bits datum = if is_number datum then byte - bits else byte

-- The frame's method is in bits 6 to 4 of the fix data byte, the target's in bits 1 and 0; the method of a THREAD in bits 3 and 2 (and 4) of its first byte.
abbrev pub plain_reference : Frames → Reference → Reference
plain_reference f r = record {
  fix = without (without r.fix 0x30 r.frame) 0x03 r.target;
  frame = plain_if f r.frame;
  target = plain_if f r.target;
  displacement = r.displacement;
}

abbrev pub plain_part : Frames → Part → Part
plain_part f (parts.Thread first datum) = parts.Thread (without first 0x0C datum) (plain_if f datum)
plain_part f (parts.Fixup location r) = parts.Fixup location (plain_reference f r)
plain_part f (parts.Start first r) = parts.Start first (option_map (plain_reference f) r)

-- The bytes of a part in a record of this type.
abbrev pub datum_bytes : Datum → List ℕ
datum_bytes (datums.Index i) = index_bytes i
datum_bytes (datums.Number n) = little_bytes 2 n

abbrev pub reference_bytes : ℕ → Reference → List ℕ
reference_bytes kind r = r.fix ∷ (option_bytes datum_bytes r.frame ++ (option_bytes datum_bytes r.target ++ option_bytes (little_bytes (width kind)) r.displacement))

abbrev pub part_bytes : ℕ → Part → List ℕ
part_bytes kind (parts.Thread first datum) = first ∷ option_bytes datum_bytes datum
part_bytes kind (parts.Fixup location r) = location / 256 ∷ location % 256 ∷ reference_bytes kind r
part_bytes kind (parts.Start first r) = first ∷ option_bytes (reference_bytes kind) r

-- A record with a frame number: with indices in their place. All others stay.
abbrev pub is_numbered : Part → Bool
is_numbered (parts.Thread first datum) = is_number datum
is_numbered (parts.Fixup location r) = is_number r.frame || is_number r.target
is_numbered (parts.Start first (Some r)) = is_number r.frame || is_number r.target
is_numbered (parts.Start first None) = false

abbrev pub plain_record : Frames → Raw → Raw
plain_record f r =
    if list_any (λ p. is_numbered p.item) (parts_of r) then raw_of r.kind (flat_map (λ p. part_bytes r.kind (plain_part f p.item)) (parts_of r)) else r

-- The number of a module's segments, and of its records up to the last SEGDEF (or, without one, of its header).
abbrev pub segment_count : List Raw → ℕ
segment_count rs = length (filter (λ r. is_segdef r.kind) rs)

abbrev pub front_count : List Raw → ℕ
front_count [] = 0
front_count (r ∷ rs) = if list_any (λ x. is_segdef x.kind) rs then 1 + front_count rs else 1

abbrev pub frames : List Raw → Frames
frames rs = record { count = segment_count rs; numbers = distinct (numbers rs) }

-- A module's records with the segments of its frames after its last SEGDEF, and their indices in place of frame numbers.
abbrev pub with_segments : List Raw → List Raw
with_segments rs = map (plain_record (frames rs)) (take (front_count rs) rs) ++ map segment (distinct (numbers rs)) ++ map (plain_record (frames rs)) (drop (front_count rs) rs)

-- Records get segments if they name a frame number, and if the segments, with the module's own, have indices.
abbrev pub gets_segments : List Raw → Bool
gets_segments rs = not (length (numbers rs) == 0) && nat_le (segment_count rs + length (distinct (numbers rs))) 32767

-- The bytes begin with a whole record.
abbrev pub has_record : List ℕ → Bool
has_record bytes = is_whole bytes && not (stated_length bytes == 0)
