-- The placement text of a layout: a line for each segment, each group and each external, with a comment from its SEGDEF, GRPDEF, EXTDEF or COMDEF (this
-- profile's rule).
use Rattle.std.specs.Prelude.{ℕ, List, [], ◌∷◌, ◌++◌, flat_map, Bool, false, Option, Some, None, ◌==◌, ◌&&◌, codes, decimal, if◌then◌else◌}
use Rattle.std.specs.List.{enumerate_from, zip}
use Rattle.omf_records.specs.Values.{Rec, GroupItem}
use Rattle.omf_check.specs.Tables.{names, segments, groups, externals}
use Rattle.omf_check.specs.declared.segment.SegInfo.{SegInfo}
use Rattle.omf_placement.specs.declared.frame.Frame.{Frame}
use Rattle.omf_placement.specs.declared.frame.Placed.{Placed}
use Rattle.omf_placement.specs.Entries.{in_words}
use Rattle.omf_placement.specs.Placement.{real_frame, real_group}
use Rattle.omf_layout.specs.declared.alignment.Alignment.{Alignment}
use Rattle.omf_layout.specs.declared.options.Frames.{Frames}
use Rattle.omf_layout.specs.declared.options.Frames.TheVariants.{Real, Flat}
use Rattle.omf_layout.specs.Layout.{LaidOut}
use Rattle.omf_placement.specs.Quoted.{number, quoted, named}
use Rattle.omf_layout.specs.Wants.{bytes_aligned}

-- An entry and its comment, after a semicolon.
abbrev pub line : List ℕ → List (List ℕ) → List ℕ
line entry comment = entry ++ codes " ; " ++ in_words comment ++ 10 ∷ []

abbrev pub placed_entry : List ℕ → Placed → List ℕ
placed_entry letter p = in_words (letter ∷ number p.address ∷ number p.frame.base ∷ number p.frame.selector ∷ [])

-- In real mode a segment in the frame of its paragraph is written by its address alone.
abbrev pub is_same_frame : Option Frame → Frame → Bool
is_same_frame None f = false
is_same_frame (Some g) f = (g.base == f.base) && (g.selector == f.selector)

abbrev pub segment_entry : Frames → Placed → List ℕ
segment_entry Real p = if is_same_frame (real_frame p.address) p.frame then in_words (codes "S" ∷ number p.address ∷ codes "real" ∷ []) else placed_entry (codes "S") p
segment_entry (Flat selector) p = placed_entry (codes "S") p

-- The comment of a segment: index, name, class, alignment in bytes, length; all numbers decimal.
abbrev pub alignment_text : Option (ℕ × ℕ) → Alignment → List ℕ
alignment_text None a = codes "align " ++ decimal (bytes_aligned a)
alignment_text (Some p) a = codes "absolute"

abbrev pub segment_comment : List Rec → ℕ → SegInfo → Alignment → List (List ℕ)
segment_comment m i s a = decimal i ∷ named (names m) s.name ∷ codes "class" ∷ named (names m) s.class ∷ alignment_text s.absolute a ∷ codes "length" ∷ decimal s.length ∷ []

abbrev pub segment_line : Frames → List Rec → ℕ × ((SegInfo × Alignment) × Placed) → List ℕ
segment_line frames m s = line (segment_entry frames s.1.1) (segment_comment m s.0 s.1.0.0 s.1.0.1)

-- The entry of a group whose frame is that of its lowest member is `G real`.
abbrev pub frame_entry : Frame → List ℕ
frame_entry f = in_words (codes "G" ∷ number f.base ∷ number f.selector ∷ [])

abbrev pub frame_or_real : Option Frame → Frame → List ℕ
frame_or_real None f = frame_entry f
frame_or_real (Some g) f = codes "G real"

abbrev pub group_entry : Frames → List Rec → List Placed → ℕ → Frame → List ℕ
group_entry Real m xs k f = frame_or_real (real_group m xs k) f
group_entry (Flat selector) m xs k f = frame_entry f

abbrev pub group_line : Frames → List Rec → List Placed → ℕ × (GroupItem × Frame) → List ℕ
group_line frames m xs g = line (group_entry frames m xs g.0 g.1.1) (decimal g.0 ∷ named (names m) g.1.0.name.item ∷ [])

-- The comment of an external: index, name, and the length of a communal, or that the place of any other external is to be filled in.
abbrev pub room_text : Option ℕ → List ℕ
room_text None = codes "to be filled in"
room_text (Some size) = codes "communal length " ++ decimal size

abbrev pub external_line : ℕ × ((List ℕ × Option ℕ) × Placed) → List ℕ
external_line e = line (placed_entry (codes "E") e.1.1) (decimal e.0 ∷ quoted e.1.0.0 ∷ room_text e.1.0.1 ∷ [])

abbrev pub draft_text : Frames → List Rec → LaidOut → List ℕ
draft_text frames m l =
    flat_map (segment_line frames m) (enumerate_from 1 (zip (zip (segments m) l.alignments) l.places.segments))
    ++ flat_map (group_line frames m l.places.segments) (enumerate_from 1 (zip (groups m) l.places.groups))
    ++ flat_map external_line (enumerate_from 1 (zip (zip (externals m) l.rooms) l.places.externals))
