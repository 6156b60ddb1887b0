-- The placements of several modules: the places of each module's segments, and the frames of its groups (this profile's rule).
use Rattle.std.specs.Prelude.{◌≡◌, ℕ, List, [], ◌++◌, length, map, flat_map, filter_map, find, zip, Option, unwrap_or, option_map, option_and_then, ◌==◌, ◌&&◌, Bool}
use Rattle.std.specs.List.{range_with_len, enumerate_from}
use Rattle.std.specs.BTreeMap.{BTreeMap, get_by}
use denote.Ref.{Bor}
use Rattle.omf_names.specs.Names.{name_cmp}
use Rattle.omf_records.specs.Values.{Rec, GroupItem}
use Rattle.omf_check.specs.Tables.{segments, groups}
use Rattle.omf_placement.specs.declared.frame.Frame.{Frame}
use Rattle.omf_placement.specs.declared.frame.Placed.{Placed}
use Rattle.omf_placement.specs.Placement.{Places, group_place, lowest, members_placed}
use Rattle.omf_layout.specs.declared.options.Frames.{Frames}
use Rattle.omf_layout.specs.declared.options.Frames.TheVariants.{Real, Flat}
use Rattle.omf_layout.specs.declared.options.Options.{Options}
use Rattle.omf_layout.specs.Several.Gathered.{of_name}
use Rattle.omf_layout.specs.Layout.{Laid}
use Rattle.omf_layout.specs.Room.{frame_at}
use Rattle.omf_layout.specs.Several.Laying.{Lying, laid, arranged}
use Rattle.omf_layout.specs.Several.Portions.{Named, name_at}

-- The place of segment i of module j, among laid segments.
abbrev pub is_of : ℕ → ℕ → Lying → Bool
is_of j i x = (x.0.«module» == j) && (x.0.index == i)

abbrev pub place_in : List Lying → ℕ → ℕ → Option Placed
place_in ls j i = option_map (λ x. x.1) (find (is_of j i) ls)

-- The places of a module's segments: all of them are laid, by the law segments_are_found.
abbrev pub segments_in : List Lying → ℕ × List Rec → List Placed
segments_in ls m = filter_map (place_in ls m.0) (range_with_len 1 (length (segments m.1)))

abbrev pub all_segments_in : List Lying → List (List Rec) → List (List Placed)
all_segments_in ls ms = map (segments_in ls) (enumerate_from 0 ms)

-- A place at the start of its frame.
abbrev pub at_frame : Placed → Placed
at_frame p = group_place p.frame

-- The lowest of these places of a group's members, with the group's name; none for a group without members.
abbrev pub low_of : List Rec → List Placed → GroupItem → Option (Named Placed)
low_of m xs g = option_map (λ p. (name_at m g.name.item, p)) (option_and_then lowest (members_placed xs g.members))

-- The start of the lowest frame of the members of each group of a module.
abbrev pub lows_in : List Rec × List Placed → List (Named Placed)
lows_in m = filter_map (low_of m.0 (map at_frame m.1)) (groups m.0)

abbrev pub lows : List (List Rec) → List (List Placed) → List (Named Placed)
lows ms xs = flat_map lows_in (zip ms xs)

-- The frame of the groups of a name: in real mode the lowest frame of the members of any of them, whatever their order, or the frame at address 0 if none has a
-- member; in flat mode the one frame.
abbrev pub frame_by : Frames → Option Placed → Frame
frame_by Real low = unwrap_or (option_map (λ p. p.frame) low) (frame_at Real 0)
frame_by (Flat selector) low = frame_at (Flat selector) 0

abbrev pub frame_named : Frames → List (Named Placed) → List ℕ → Frame
frame_named frames ls name = frame_by frames (lowest (of_name ls name))

abbrev pub group_frames : Frames → List (Named Placed) → List Rec → List Frame
group_frames frames ls m = map (λ g. frame_named frames ls (name_at m g.name.item)) (groups m)

-- The placement of a module: its segments and its groups. It has no externals yet.
abbrev pub with_frames : Frames → List (Named Placed) → List Rec × List Placed → Places
with_frames frames ls m = record { segments = m.1; groups = group_frames frames ls m.0; externals = [] }

abbrev pub all_with_frames : Frames → List (List Rec) → List (List Placed) → List Places
all_with_frames frames ms xs = map (with_frames frames (lows ms xs)) (zip ms xs)

-- The placements of all modules, and the first free address after all segments; none if one does not fit.
abbrev pub arranged_places : Options → List (List Rec) → Option (Laid (List Places))
arranged_places o ms = option_map (λ l. laid (all_with_frames o.frames ms (all_segments_in l.what ms)) l.free) (arranged o ms)

-- A table of lowest frames by name, each as the place at its start.
abbrev pub IsLowTable : BTreeMap (Bor (List ℕ)) Placed → List (Named Placed) → Type 0
IsLowTable m ls = (name : List ℕ) → get_by (λ k. name_cmp name k.now) m ≡ lowest (of_name ls name)

-- A table has these places in addition to those of another.
abbrev pub HasMore : BTreeMap (Bor (List ℕ)) Placed → BTreeMap (Bor (List ℕ)) Placed → List (Named Placed) → Type 0
HasMore m n more = (ls : List (Named Placed)) → IsLowTable m ls → IsLowTable n (ls ++ more)
