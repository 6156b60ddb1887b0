-- .COM programs of linked modules: the file, what DOS makes of it, and why modules have none (this profile's rule; the order of faults too).
use Rattle.std.specs.Prelude.{◌≡◌, ◌⊎◌, ℕ, ◌+◌, ◌-◌, ◌*◌, ◌%◌, ◌==◌, ◌&&◌, List, [], ◌∷◌, ◌++◌, drop, filter, filter_map, find, length, max, min, not, nat_lt, Bool, false, Option, Some, None, option_and_then, option_map, is_some, Result, Ok, Err, slice_get, sum_by, take, if◌then◌else◌}
use Rattle.std.specs.Option.{option_map_or, option_or}
use Rattle.omf_frame.specs.declared.fault.Place.{Place}
use Rattle.omf_records.specs.Values.{Contents, Plain, Iterated, Rec, is_segment_relative, width}
-- computed: blocks_are_read and lengths_are_decided of omf_image.
use Rattle.omf_image.specs.Inner.Expanding.{expanded}
use Rattle.omf_image.specs.Limits.{profile_limits}
use Rattle.omf_check.specs.Listed.{placed_from}
use Rattle.omf_check.specs.Module.{records_in}
use Rattle.omf_placement.specs.declared.frame.Frame.{Frame}
use Rattle.omf_placement.specs.Placement.{Places, frame_by}
use Rattle.omf_reloc.specs.Plain.{Piece, PlainFixup, fixups_in}
use Rattle.omf_output.specs.declared.exe.com_fault.ComFault.{ComFault}
use Rattle.omf_output.specs.declared.exe.com_fault.ComFault.TheVariants as fault
use Rattle.omf_output.specs.declared.exe.fault.ExeFault.{ExeFault}
use Rattle.omf_output.specs.Exe.Linked.{linked, member_fault, one_start, placed, starts}
use Rattle.omf_output.specs.Exe.Loading.{Loaded}
use Rattle.omf_output.specs.Exe.Members.{Member, Portion, all_moving, memory_end, portions}
use Rattle.omf_output.specs.Exe.Memory.{all_chunks, data_end, segment_address}
use Rattle.omf_output.specs.Exe.Moved.{Movers, frame_moves}
use Rattle.omf_output.specs.Exe.Relocations.{is_base, site}
use Rattle.omf_output.specs.Located.{Located, located}

-- ---- the file

-- What DOS makes of a .COM file: the address where the file's bytes are, the bytes, CS:IP, and SS:SP.
pub record ComLoaded : Type 0 where
  pub address : ℕ
  pub bytes : List ℕ
  pub code : ℕ × ℕ
  pub stack : ℕ × ℕ

-- A word of 0 is at offset FFFEH of the segment, over what the file has there: its bytes begin at 100H.
abbrev pub with_word : List ℕ → List ℕ
with_word bytes = take 65278 bytes ++ take (length bytes - 65278) (0 ∷ 0 ∷ [])

-- DOS loads the file at offset 100H of a segment, after the 256 bytes that it keeps there for itself (the program segment prefix). It puts a word of 0
-- at offset FFFEH, to which a near return leads back to the prefix, and starts the file at its first byte, with all segment registers at the segment
-- and SP at that word (MS-DOS Programmer's Reference, "Loading .COM programs", where the segment has 64 KB). Registers have 16 bits.
abbrev pub com_loaded : List ℕ → ℕ → ComLoaded
com_loaded bytes k = record { address = 16 * k + 256; bytes = with_word bytes; code = (k % 65536, 256); stack = (k % 65536, 65534) }

-- The same of what modules are at a paragraph: their bytes from offset 100H on, and their start, with the stack at the end of its segment.
abbrev pub after_prefix : Loaded → ComLoaded
after_prefix l = record { address = l.address + 256; bytes = drop 256 l.image; code = l.code; stack = (l.code.0, 65534) }

-- The file of linked modules: their bytes from 100H to the last byte of data.
abbrev pub com_bytes : List Member → List ℕ
com_bytes ms = drop 256 (linked ms).image

-- ---- faults

-- A fault of the start that an .EXE file has too; or a start that is not at offset 100H of the first paragraph.
abbrev pub start_fault : Result (ℕ × ℕ) ExeFault → Option ComFault
start_fault (Err f) = Some (fault.Exe f)
start_fault (Ok s) = if (s.0 == 0) && (s.1 == 256) then None else Some (fault.Start (record { selector = s.0; offset = s.1 }))

-- Whether bytes from an address on are there, and begin below 100H.
abbrev pub is_low : ℕ → ℕ → Bool
is_low address size = nat_lt address 256 && nat_lt 0 size

-- Whether a record has a byte of data below 100H; and the place of the first that has.
abbrev pub has_low_data : Places → ℕ → Contents → Bool
has_low_data pl kind (Plain d) = is_low (segment_address pl d.segment.item + d.offset.item) (length d.bytes)
has_low_data pl kind (Iterated d) = is_low (segment_address pl d.segment.item + d.offset.item) (length (expanded (width kind) profile_limits d.bytes))
has_low_data pl kind _ = false

abbrev pub is_low_record : Places → Rec → Bool
is_low_record pl r = has_low_data pl r.kind r.contents

abbrev pub first_low : Places → List (Place × Rec) → Option Place
first_low pl rs = option_map (λ x. x.0) (find (λ x. is_low_record pl x.1) rs)

-- Whether a fixup of data in a segment adds an offset in a frame that moves with the program and does not begin where it does, so that no segment
-- register has it. A base adds no offset, and a self-relative fixup no offset in a frame.
abbrev pub has_base : Option Frame → Bool
has_base frame = option_map_or (λ f. not (f.base == 0)) frame false

abbrev pub counts_apart : Places → Movers → ℕ → PlainFixup → Bool
counts_apart pl mv segment f =
    is_segment_relative f.locat && not (is_base f.locat)
    && (frame_moves mv segment f.reference.target f.reference.frame && has_base (frame_by pl segment f.reference.target f.reference.frame))

-- The fault of a fixup of data in a segment, at a place: a relocation word, or else such a frame.
abbrev pub fixup_fault : Member → Place → ℕ → ℕ × PlainFixup → Option ComFault
fixup_fault m p segment f =
    if is_some (site m.movers segment f) then Some (fault.Words m.number p)
    else (if counts_apart m.places m.movers segment f.1 then Some (fault.Frame m.number p) else None)

-- The first fault of the fixups of a piece, and of those of all pieces.
abbrev pub piece_fault : Member → Located → Option ComFault
piece_fault m x = option_and_then (λ segment. slice_get (filter_map (fixup_fault m x.place segment) (fixups_in x.piece)) 0) x.segment

abbrev pub first_fixup : Member → List (Place × Piece) → Option ComFault
first_fixup m ps = slice_get (filter_map (piece_fault m) (located ps)) 0

-- The fault of a module alone: data below 100H, or else that of its first fixup with one.
abbrev pub part_fault : Member → Option ComFault
part_fault m = option_or (option_map (λ p. fault.Low m.number p) (first_low m.places (placed_from 0 0 (records_in m.bytes)))) (first_fixup m (placed m))

-- The first address after the prefix, the data and the segments. The segments of the stack do not count: DOS sets SS:SP to the end of the program's segment.
abbrev pub without_stack : List Portion → List Portion
without_stack ps = filter (λ p. not p.is_stack) ps

abbrev pub com_end : List Member → ℕ
com_end ms = max 256 (max (data_end (all_chunks (all_moving ms))) (memory_end (without_stack (portions ms))))

-- The bytes of a segment.
abbrev pub size_of : Portion → ℕ
size_of p = p.end - p.place.address

-- The bytes that the stack needs: those of its segments together, and 256 at least. More than 65,536 count as 65,536.
abbrev pub stack_bytes : List Portion → ℕ
stack_bytes ps = max 256 (min (sum_by size_of (filter (λ p. p.is_stack) ps)) 65536)

-- The program and its stack end before offset FFFEH.
abbrev pub long_fault : List Member → Option ComFault
long_fault ms = if nat_lt 65534 (com_end ms + stack_bytes (portions ms)) then Some (fault.TooLong (com_end ms) (stack_bytes (portions ms))) else None

-- The first fault: that of a module that an .EXE file has too; that of the start; that of a module alone; that of the end.
abbrev pub exe_part : List Member → Option ComFault
exe_part ms = option_map fault.Exe (slice_get (filter_map member_fault ms) 0)

abbrev pub com_fault : List Member → Option ComFault
com_fault ms = option_or (exe_part ms) (option_or (start_fault (one_start (starts ms))) (option_or (slice_get (filter_map part_fault ms) 0) (long_fault ms)))

-- A fault is the first one; or Memory, only if there is none.
abbrev pub IsComFault : List Member → ComFault → Type 0
IsComFault ms f = (com_fault ms ≡ Some f) ⊎ ((f ≡ fault.Memory) × (com_fault ms ≡ None))
