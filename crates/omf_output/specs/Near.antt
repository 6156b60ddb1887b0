-- Near references into another frame (this profile's rule). A near call or jump keeps CS and adds to IP, which has 16 bits (8086: CALL, JMP within a
-- segment). So its target must have a 16-bit offset in the frame in which the code at its location runs: the frame of the segment, or of its group.
use Rattle.std.specs.Prelude.{ℕ, ◌+◌, ◌*◌, ◌==◌, ◌&&◌, List, [], ◌∷◌, ◌++◌, map, flat_map, filter_map, find, not, Bool, false, Option, Some, None, option_map, option_and_then, option_to_list, is_some, slice_get, bytes_eq, if◌then◌else◌}
use Rattle.std.specs.List.{enumerate_from, list_any}
use Rattle.std.specs.Option.{option_map_or, option_or}
use Rattle.omf_frame.specs.declared.fault.Place.{Place}
use Rattle.omf_frame.specs.Bytes.{is_one_of}
use Rattle.omf_records.specs.Values.{Rec, GroupItem, combination, is_segment_relative, location_type, width}
use Rattle.omf_records.specs.Location.{row_of}
use Rattle.omf_check.specs.Listed.{placed_from}
use Rattle.omf_check.specs.Module.{Module, recs_of, records_in}
use Rattle.omf_check.specs.Tables.{attributes, entry, groups, segments}
use Rattle.omf_check.specs.declared.segment.SegInfo.{SegInfo}
use Rattle.omf_placement.specs.Derive.{PlacedModule, placed_modules}
use Rattle.omf_placement.specs.declared.frame.Frame.{Frame}
use Rattle.omf_placement.specs.Placement.{Places, place_of}
-- computed: threads_give_references and faults_are_walked of omf_reloc.
use Rattle.omf_reloc.specs.Inner.Pieces.{placed_pieces}
use Rattle.omf_reloc.specs.Offsets.{offsets}
use Rattle.omf_reloc.specs.Plain.{Piece, PlainFixup, fixups_in}
use Rattle.omf_output.specs.Exe.Derived.{name_at}
use Rattle.omf_output.specs.Located.{Located, located}
use Rattle.omf_output.specs.declared.near.Stray.{Stray}

-- The members of a module's groups, in the order of the GRPDEFs: the index of the segment and the index of the group.
abbrev pub members_of : ℕ × GroupItem → List (ℕ × ℕ)
members_of g = map (λ x. (x.item.item, g.0)) g.1.members

abbrev pub memberships : List Rec → List (ℕ × ℕ)
memberships m = flat_map members_of (enumerate_from 1 (groups m))

-- The group of a segment in its own module: the first that has it.
abbrev pub group_of : List Rec → ℕ → Option ℕ
group_of m k = option_and_then (λ s. option_map (λ x. x.1) (find (λ x. x.0 == k) (memberships m))) (entry (segments m) k)

-- A segment is joined with others of its name and class if it is public (C = 2, 4, 7) or a stack (C = 5), and not absolute (TIS OMF 1.1, "SEGDEF"). Then
-- these two name one segment of the program, of which several modules may have parts.
abbrev pub is_joined : SegInfo → ℕ → Bool
is_joined s attribute = not (is_some s.absolute) && is_one_of (2 ∷ 4 ∷ 5 ∷ 7 ∷ []) (combination attribute)

abbrev pub full_name : List Rec → SegInfo → ℕ → Option (List ℕ × List ℕ)
full_name m s attribute = if is_joined s attribute then Some (name_at m s.name, name_at m s.class) else None

abbrev pub full_name_at : List Rec → ℕ → Option (List ℕ × List ℕ)
full_name_at m k = option_and_then (λ s. option_and_then (full_name m s) (entry (attributes m) k)) (entry (segments m) k)

-- The base of the frame of a group that has a part of such a segment.
pub record GroupFrame : Type 0 where
  pub name : List ℕ
  pub class : List ℕ
  pub base : ℕ

abbrev pub frame_of : ℕ → List ℕ × List ℕ → GroupFrame
frame_of base n = record { name = n.0; class = n.1; base = base }

abbrev pub group_frame : List Rec → ℕ → ℕ → Option GroupFrame
group_frame m base k = option_map (frame_of base) (full_name_at m k)

-- Those of the members of a group, of the groups of a module, and of those of all modules.
abbrev pub member_frames : List Rec → GroupItem → Frame → List GroupFrame
member_frames m g f = filter_map (λ x. group_frame m f.base x.item.item) g.members

abbrev pub group_frames : PlacedModule → ℕ × GroupItem → List GroupFrame
group_frames m g = option_map_or (member_frames m.0 g.1) (entry m.1.groups g.0) []

abbrev pub group_frames_in : PlacedModule → List GroupFrame
group_frames_in m = flat_map (group_frames m) (enumerate_from 1 (groups m.0))

abbrev pub group_frames_of : List PlacedModule → List GroupFrame
group_frames_of ms = flat_map group_frames_in ms

-- The base of the first group of all modules that has a part of segment k of a module.
abbrev pub is_for : List ℕ × List ℕ → GroupFrame → Bool
is_for n x = bytes_eq x.name n.0 && bytes_eq x.class n.1

abbrev pub first_base : List GroupFrame → List ℕ × List ℕ → Option ℕ
first_base xs n = option_map (λ x. x.base) (find (is_for n) xs)

abbrev pub shared_base : List PlacedModule → List Rec → ℕ → Option ℕ
shared_base all m k = option_and_then (first_base (group_frames_of all)) (full_name_at m k)

-- The bases of the frames in which code of segment k of one of all modules may run: the segment's, its group's, and that of the first group of any module
-- that has a part of it.
abbrev pub bases : List PlacedModule → PlacedModule → ℕ → List ℕ
bases all m k =
    option_to_list (option_map (λ p. p.frame.base) (entry m.1.segments k))
    ++ (option_to_list (option_map (λ f. f.base) (option_and_then (λ g. entry m.1.groups g) (group_of m.0 k))) ++ option_to_list (shared_base all m.0 k))

-- A fixup in a FIXUPP of type f.0 is self-relative and has 16 bits; and its target at an address has a 16-bit offset in the frame with this base, by some
-- reading of the displacement.
abbrev pub is_near : PlainFixup → Bool
is_near f = not (is_segment_relative f.locat) && ((row_of (location_type f.locat)).self_relative_bits == 16)

abbrev pub is_within : ℕ × PlainFixup → ℕ → ℕ → Bool
is_within f address base = is_some (slice_get (offsets 16 (8 * width f.0) address f.1.reference.displacement base) 0)

-- A near reference of data in segment k is into another frame.
abbrev pub strays : List PlacedModule → PlacedModule → ℕ → ℕ × PlainFixup → Bool
strays all m k f = is_near f.1 && option_map_or (λ p. not (list_any (is_within f p.address) (bases all m k))) (place_of m.1 f.1.reference.target) false

-- A piece has such a fixup; and the place of the first that has.
abbrev pub has_stray : List PlacedModule → PlacedModule → Located → Bool
has_stray all m x = option_map_or (λ k. list_any (strays all m k) (fixups_in x.piece)) x.segment false

abbrev pub first_stray : List PlacedModule → PlacedModule → List (Place × Piece) → Option Place
first_stray all m ps = option_map (λ x. x.place) (find (has_stray all m) (located ps))

-- The first such fixup of modules at their placements, by the number of its module, from 0, and its place.
abbrev pub stray_in : List PlacedModule → ℕ → Module → Places → Option Stray
stray_in all j m pl = option_map (λ p. record { «module» = j; place = p }) (first_stray all (recs_of m.bytes, pl) (placed_pieces (placed_from 0 0 (records_in m.bytes))))

abbrev pub near_from : List PlacedModule → ℕ → List Module → List Places → Option Stray
near_from all j [] pls = None
near_from all j (m ∷ ms) [] = None
near_from all j (m ∷ ms) (pl ∷ pls) = option_or (stray_in all j m pl) (near_from all (j + 1) ms pls)

abbrev pub first_near : List Module → List Places → Option Stray
first_near ms pls = near_from (placed_modules ms pls) 0 ms pls
