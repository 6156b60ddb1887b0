-- Words of the worked examples.
use Rattle.std.specs.Prelude.{ℕ, ◌+◌, ◌/◌, List, [], ◌∷◌, ◌++◌, Bool, true, false, Some, None, codes}
use Rattle.omf_records.specs.Values.{At, Rec, Names, Segment, Group, Comment, Externs, Publics, Plain, Iterated, Fixups, ModEnd, Fixup, SegmentItem}
use Rattle.omf_check.specs.declared.method.FrameMethod.{FrameMethod}
use Rattle.omf_check.specs.declared.method.TargetMethod.{TargetMethod}
use Rattle.omf_placement.specs.declared.frame.Placed.{Placed}
use Rattle.omf_frame.specs.declared.fault.Place.{Place}
use Rattle.omf_check.specs.Threads.{T0}
use Rattle.omf_check.specs.declared.method.FrameMethod.TheVariants.{Target as F5}
use Rattle.omf_reloc.specs.Plain.{Piece, Kept, Fixed, PlainFixup}
use Rattle.omf_output.specs.declared.exe.movers.Moving.{Moving}
use Rattle.omf_output.specs.Exe.Moved.{Movers, both}
use Rattle.omf_placement.specs.Placement.{Places}
use Rattle.omf_output.specs.Exe.Members.{Member, Portion}
use Rattle.omf_output.specs.Exe.Memory.{MovingModule}

abbrev pub at : {A : Type 0} → ℕ → A → At A
at within item = record { within = within; item = item }

-- `mov ax, seg` and `retf` in one segment, which is the start: SEGDEF, LEDATA, FIXUPP (a base, F5 T0 1) and MODEND.
abbrev pub segment_of_4 : SegmentItem
segment_of_4 = record { attribute = 0x60; absolute = None; size = 4; name = at 6 1; class = at 7 1; overlay = 1 }

abbrev pub loads_its_segment : List Rec
loads_its_segment =
    record { kind = 0x98; contents = Segment segment_of_4 }
    ∷ record { kind = 0xA0; contents = Plain (record { segment = at 3 1; offset = at 4 0; bytes = 0xB8 ∷ 0 ∷ 0 ∷ 0xCB ∷ [] }) }
    ∷ record { kind = 0x9C; contents = Fixups (at 3 (Fixup 0xC801 (record { fix = at 5 0x54; frame = None; target = Some (at 6 1); displacement = None })) ∷ []) }
    ∷ record { kind = 0x8A; contents = ModEnd 0xC1 (Some (record { fix = at 4 0x50; frame = None; target = Some (at 5 1); displacement = Some 0 })) }
    ∷ []

abbrev pub placed_at : ℕ → ℕ → ℕ → Placed
placed_at address base selector = record { address = address; frame = record { base = base; selector = selector } }

-- It is at 0, and moves.
abbrev pub at_0 : MovingModule
at_0 = record {
  records = loads_its_segment;
  places = record { segments = placed_at 0 0 0 ∷ []; groups = []; externals = [] };
  movers = record { segments = true ∷ []; groups = []; externals = [] };
}

-- Its file: 32 bytes of header, with one entry, and the four of the image; SS:SP is 0:100H.
abbrev pub file : List ℕ
file = 0x4D ∷ 0x5A ∷ 36 ∷ 0 ∷ 1 ∷ 0 ∷ 1 ∷ 0 ∷ 2 ∷ 0 ∷ 0 ∷ 0 ∷ 0xFF ∷ 0xFF ∷ 0 ∷ 0 ∷ 0 ∷ 1 ∷ 0 ∷ 0 ∷ 0 ∷ 0 ∷ 0 ∷ 0 ∷ 28 ∷ 0 ∷ 0 ∷ 0 ∷ 1 ∷ 0 ∷ 0 ∷ 0 ∷ 0xB8 ∷ 0 ∷ 0 ∷ 0xCB ∷ []

-- Segment 1 moves, segment 2 does not; a fixup of a FIXUPP of 16 bits.
abbrev pub one_of_two : Movers
one_of_two = record { segments = true ∷ false ∷ []; groups = []; externals = [] }

-- Both move; segment 2 is in a frame 4 paragraphs higher.
abbrev pub both_move : Movers
both_move = record { segments = true ∷ true ∷ []; groups = []; externals = [] }

abbrev pub two_apart : Places
two_apart = record { segments = placed_at 0 0 0 ∷ placed_at 0x40 0x40 4 ∷ []; groups = []; externals = [] }

-- The module that loads its own segment, as a member of a program; only its placement and what moves count.
abbrev pub member_0 : Member
member_0 = record { number = 0; bytes = []; places = at_0.places; movers = at_0.movers }

-- Two segments of 16 bytes, at 0 and at 40H, each in a frame of its own; and the same with a group of both, whose frame begins at 0.
abbrev pub two_segments : List Rec
two_segments = record { kind = 0x98; contents = Segment segment_of_4 } ∷ record { kind = 0x98; contents = Segment segment_of_4 } ∷ []

abbrev pub in_a_group : List Rec
in_a_group = two_segments ++ record { kind = 0x9A; contents = Group (record { name = at 3 1; members = at 4 (at 5 1) ∷ at 6 (at 7 2) ∷ [] }) } ∷ []

-- The same of two public segments with names, "T" and "D".
abbrev pub public_segment : ℕ → SegmentItem
public_segment name = record { attribute = 0x68; absolute = None; size = 4; name = at 6 name; class = at 7 0; overlay = 0 }

abbrev pub joined_segments : List Rec
joined_segments =
    record { kind = 0x96; contents = Names (at 3 (0x54 ∷ []) ∷ at 5 (0x44 ∷ []) ∷ []) }
    ∷ record { kind = 0x98; contents = Segment (public_segment 1) }
    ∷ record { kind = 0x98; contents = Segment (public_segment 2) }
    ∷ []

abbrev pub joined_in_a_group : List Rec
joined_in_a_group = joined_segments ++ record { kind = 0x9A; contents = Group (record { name = at 3 1; members = at 4 (at 5 1) ∷ at 6 (at 7 2) ∷ [] }) } ∷ []

abbrev pub two_apart_grouped : Places
two_apart_grouped = record { segments = two_apart.segments; groups = record { base = 0; selector = 0 } ∷ []; externals = [] }

-- A segment of the stack, from an address on, in the frame that begins there.
abbrev pub stack_portion : ℕ → ℕ → Portion
stack_portion address size = record { place = placed_at address address (address / 16); end = address + size; is_stack = true }

abbrev pub fixup : ℕ → FrameMethod → TargetMethod → ℕ × PlainFixup
fixup locat frame target = (0x9C, record { locat = locat; reference = record { frame = frame; target = target; displacement = 0 } })

-- Pieces, each with the number of its place.
abbrev pub place : ℕ → Place
place n = record { number = n; start = 0; within = 0 }

abbrev pub numbered : ℕ → List Piece → List (Place × Piece)
numbered n [] = []
numbered n (p ∷ ps) = (place n, p) ∷ numbered (n + 1) ps

-- Four bytes at 0 of segment 1, with a base at 1 and an offset of 16 bits at 2.
abbrev pub base_under_offset : List Piece
base_under_offset =
    Kept (record { kind = 0xA0; contents = Plain (record { segment = at 3 1; offset = at 4 0; bytes = 0xB8 ∷ 0 ∷ 0 ∷ 0xCB ∷ [] }) })
    ∷ Fixed 0x9C ((fixup 0xC801 F5 (T0 1)).1 ∷ [])
    ∷ Fixed 0x9C ((fixup 0xC402 F5 (T0 1)).1 ∷ [])
    ∷ []

-- Data of segment 2, with a near reference to segment 1.
abbrev pub near_to_1 : List Piece
near_to_1 = Kept (record { kind = 0xA0; contents = Plain (record { segment = at 3 2; offset = at 4 0; bytes = 0xE8 ∷ 0 ∷ 0 ∷ [] }) }) ∷ Fixed 0x9C ((fixup 0x8401 F5 (T0 1)).1 ∷ []) ∷ []

-- Blocks of segment 2: these bytes.
abbrev pub blocks_of_2 : List ℕ → Piece
blocks_of_2 bytes = Kept (record { kind = 0xA2; contents = Iterated (record { segment = at 3 2; offset = at 4 0; bytes = bytes }) })

-- A fixup without data before it; data of segment 1 with two fixups; a block of segment 2, one byte once, a SEGDEF, and a fixup of the block.
abbrev pub data_and_fixups : List Piece
data_and_fixups =
    Fixed 0x9C ((fixup 0xC402 F5 (T0 2)).1 ∷ [])
    ∷ base_under_offset
    ++ blocks_of_2 (1 ∷ 0 ∷ 0 ∷ 0 ∷ 1 ∷ 0xAA ∷ [])
    ∷ Kept (record { kind = 0x98; contents = Segment segment_of_4 })
    ∷ Fixed 0x9C ((fixup 0xC402 F5 (T0 1)).1 ∷ [])
    ∷ []

-- The same of records.
abbrev pub numbered_records : ℕ → List Rec → List (Place × Rec)
numbered_records n [] = []
numbered_records n (r ∷ rs) = (place n, r) ∷ numbered_records (n + 1) rs

-- A module with the externals "A", "B" and "W", where A is the default of W; and one with two segments, of which the second is absolute at 40:0, and a group of the
-- first. Its public A is at offset 2 of segment 1; its public B is at offset 6CH of segment 2, in the frame of the group.
abbrev pub asks : List Rec
asks =
    record { kind = 0x8C; contents = Externs (at 3 (record { name = codes "A"; type_index = 0 }) ∷ at 6 (record { name = codes "B"; type_index = 0 }) ∷ at 9 (record { name = codes "W"; type_index = 0 }) ∷ []) }
    ∷ record { kind = 0x88; contents = Comment 0x80 0xA8 (3 ∷ 1 ∷ []) }
    ∷ []

abbrev pub segment_at_40 : SegmentItem
segment_at_40 = record { attribute = 0; absolute = Some (0x40, 0); size = 0x100; name = at 9 1; class = at 10 1; overlay = 1 }

abbrev pub public_in : ℕ → ℕ → List ℕ → ℕ → Rec
public_in group segment name offset = record { kind = 0x90; contents = Publics (record { group = at 3 group; segment = at 4 segment; frame = None; items = at 5 (record { name = name; offset = offset; type_index = 0 }) ∷ [] }) }

abbrev pub defines : List Rec
defines =
    record { kind = 0x98; contents = Segment segment_of_4 }
    ∷ record { kind = 0x98; contents = Segment segment_at_40 }
    ∷ record { kind = 0x9A; contents = Group (record { name = at 3 1; members = at 4 (at 5 1) ∷ [] }) }
    ∷ public_in 0 1 (codes "A") 2
    ∷ public_in 1 2 (codes "B") 0x6C
    ∷ []

-- Their places, with the first segment at an address in a frame; and their placements, with these externals.
abbrev pub their_places : Placed → List Placed → List Places
their_places first externals =
    record { segments = []; groups = []; externals = externals }
    ∷ record { segments = first ∷ placed_at 0x400 0x400 0x40 ∷ []; groups = first.frame ∷ []; externals = [] }
    ∷ []

-- What moves of them: segment 1 and the group; A and W; the frame of B, but not its address.
abbrev pub moving_in_part : Bool → Bool → Moving
moving_in_part address frame = record { address = address; frame = frame }

abbrev pub their_movers : List Movers
their_movers =
    record { segments = []; groups = []; externals = both true ∷ moving_in_part false true ∷ both true ∷ [] }
    ∷ record { segments = true ∷ false ∷ []; groups = true ∷ []; externals = [] }
    ∷ []
