-- Backpatches (TIS OMF 1.1, "BAKPAT": the value is added to the location, modulo its size). This profile's rule: the location is in the data of the last
-- data record before the BAKPAT that has a byte of it, and that is an LEDATA which has all its bytes.
use Rattle.std.specs.Prelude.{ℕ, ◌+◌, ◌-◌, List, [], ◌∷◌, length, flat_map, filter, fold, Bool, true, false, ◌==◌, ◌&&◌, nat_lt, nat_le, Option, Some, None, Result, Ok, Err, slice_get, slice_set, if◌then◌else◌}
use Rattle.std.specs.List.{enumerate_from}
use Rattle.omf_frame.specs.Bytes.{last}
use Rattle.omf_frame.specs.Fault.{Fault}
use Rattle.omf_frame.specs.Framing.{Raw, raw_of, is_taken}
use Rattle.omf_frame.specs.declared.fault.Reason.TheVariants as reason
-- computed: lengths_are_decided of omf_image.
use Rattle.omf_image.specs.Inner.Expanding.{expanded_length}
use Rattle.omf_image.specs.Limits.{profile_limits}
use Rattle.omf_image.specs.Parts.{add_part}
use Rattle.omf_image.specs.declared.part.Part.{Part}
use Rattle.omf_image.specs.declared.part.Part.TheVariants as part
use Rattle.omf_records.specs.Layout.{fault}
use Rattle.omf_records.specs.Values.{At, Contents, Plain, Iterated, is_wide, width}
-- computed: readings_meet_layouts and contents_are_typed_once of omf_records.
use Rattle.omf_records.specs.Inner.Reading.{typed}
use Rattle.omf_records.specs.Inner.Reads.{and_then}
use Rattle.omf_lowering.specs.Externals.{all_of}
use Rattle.omf_lowering.specs.Layouts.{Backpatches}
-- computed: readings_meet_layouts of omf_lowering.
use Rattle.omf_lowering.specs.Inner.Readers.{bakpat_whole}
use Rattle.omf_lowering.specs.declared.values.Backpatch.{Backpatch}
use Rattle.omf_lowering.specs.declared.values.Piece.{Piece}
use Rattle.omf_lowering.specs.declared.values.Patch.{Patch}

-- The number of bytes of an LIDATA's blocks; 0 if they have a fault, with which `check` refuses the module.
abbrev pub size_or_none : Result ℕ Fault → ℕ
size_or_none (Ok size) = size
size_or_none (Err e) = 0

-- The data of a record with a number, by its contents, whose length is given.
abbrev pub piece_of : ℕ → ℕ → ℕ → Contents → List Piece
piece_of number kind len (Plain d) =
    (record { number = number; is_plain = true; segment = d.segment.item; offset = d.offset.item; size = length d.bytes; at = len - length d.bytes }) ∷ []
piece_of number kind len (Iterated d) =
    (record { number = number; is_plain = false; segment = d.segment.item; offset = d.offset.item; size = size_or_none (expanded_length (width kind) profile_limits d.bytes); at = len - length d.bytes }) ∷ []
piece_of number kind len _ = []

abbrev pub piece_in : ℕ → Raw → List Piece
piece_in number r = if is_taken r.kind then piece_of number r.kind (length r.body) (typed r).contents else []

-- The data of records that are numbered from `first`.
abbrev pub pieces_from : ℕ → List Raw → List Piece
pieces_from first rs = flat_map (λ x. piece_in x.0 x.1) (enumerate_from first rs)

-- The number has a byte among these, from `offset` on: data and a location have one in common.
abbrev pub has_byte_of : ℕ → ℕ → ℕ → Piece → Bool
has_byte_of segment offset size p = (p.segment == segment) && (nat_lt offset (p.offset + p.size) && nat_lt p.offset (offset + size))

-- The last data that have a byte of a location.
abbrev pub holder : List Piece → ℕ → ℕ → ℕ → Option Piece
holder pieces segment offset size = last (filter (has_byte_of segment offset size) pieces)

-- The number of bytes of a location.
abbrev pub size_of : Part → ℕ
size_of part.Byte = 1
size_of part.Word = 2
size_of part.Dword = 4

-- All bytes of a location are in the data.
abbrev pub has_all : ℕ → ℕ → Piece → Bool
has_all offset size p = nat_le p.offset offset && nat_le (offset + size) (p.offset + p.size)

-- A backpatch as a value to add to a record, given the last data that have a byte of its location: NoDataRecord if there are none, FixupOnIterated if
-- they are those of an LIDATA, OutsideRecord if they lack a byte of it.
abbrev pub patch_by : Part → At Backpatch → Option Piece → Result Patch Fault
patch_by size b None = Err (fault b.within reason.NoDataRecord)
patch_by size b (Some p) =
    if p.is_plain
    then (if has_all b.item.offset (size_of size) p
    then Ok (record { number = p.number; at = p.at + (b.item.offset - p.offset); part = size; value = b.item.value })
    else Err (fault b.within reason.OutsideRecord))
    else Err (fault b.within reason.FixupOnIterated)

abbrev pub patch_at : List Piece → ℕ → Part → At Backpatch → Result Patch Fault
patch_at pieces segment size b = patch_by size b (holder pieces segment b.item.offset (size_of size))

abbrev pub placed : List Piece → Backpatches → Result (List Patch) Fault
placed pieces b = all_of (patch_at pieces b.segment.item b.part) b.items

-- The values that a BAKPAT with these contents adds, or its first fault: of layout, or else of a location.
abbrev pub patches_by : List Piece → ℕ → List ℕ → Result (List Patch) Fault
patches_by pieces kind body = and_then ((bakpat_whole (is_wide kind)).read 3 body) (placed pieces)

-- The record with a value added to a location in its contents, and the computed checksum byte.
abbrev pub with_value : Patch → Raw → Raw
with_value p r = if nat_le (p.at + size_of p.part) (length r.body) then raw_of r.kind (add_part r.body p.at (size_of p.part) p.value) else r

-- Records of which one has the value added.
abbrev pub set_value : List Raw → Patch → Option Raw → List Raw
set_value rs p None = rs
set_value rs p (Some r) = slice_set rs p.number (with_value p r)

abbrev pub with_patch : List Raw → Patch → List Raw
with_patch rs p = set_value rs p (slice_get rs p.number)

-- All the values added, one after another.
abbrev pub patched : List Raw → List Patch → List Raw
patched rs ps = fold with_patch rs ps
