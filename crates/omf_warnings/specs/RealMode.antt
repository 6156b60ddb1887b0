-- Frames in real mode with a base that is not 16 times the selector (this profile's rule). In real mode the processor adds 16 times a segment register to an
-- offset (8086), so no other base is reached by the selector.
use Rattle.std.specs.Prelude.{ℕ, ◌*◌, List, ◌++◌, Bool, false, not, ◌==◌, ◌&&◌, find, filter_map, flat_map, Option, Some, None, option_map, option_and_then, is_some, if◌then◌else◌}
use Rattle.std.specs.List.{enumerate_from, list_any}
use Rattle.std.specs.Option.{option_map_or}
use Rattle.omf_check.specs.Tables.{attributes, entry, groups, segments}
use Rattle.omf_check.specs.declared.segment.SegInfo.{SegInfo}
use Rattle.omf_placement.specs.Derive.{PlacedModule}
use Rattle.omf_records.specs.Values.{Contents, Group, GroupItem, Rec, is_use32}
use Rattle.omf_reloc.specs.declared.fault.Kind.TheVariants as kinds
use Rattle.omf_warnings.specs.Frames.{framed}
use Rattle.omf_warnings.specs.declared.frames.Framed.{Framed}

-- A frame is one of real mode.
abbrev pub is_real : Framed → Bool
is_real f = f.frame.base == 16 * f.frame.selector

-- A 16-bit segment that is not absolute (TIS OMF 1.1, "SEGDEF", P bit and A field), with the frame of its place.
abbrev pub small_segment : ℕ → PlacedModule → ℕ × SegInfo → Option Framed
small_segment j m s =
    if is_some s.1.absolute then None
    else option_and_then (λ a. if is_use32 a then None else option_map (λ p. framed kinds.Segment j s.0 p.frame) (entry m.1.segments s.0)) (entry (attributes m.0) s.0)

-- A group with a 16-bit member, with its frame.
abbrev pub is_small : List Rec → ℕ → Bool
is_small m k = option_map_or (λ a. not (is_use32 a)) (entry (attributes m) k) false

abbrev pub has_small : List Rec → Contents → Bool
has_small m (Group g) = list_any (λ x. is_small m x.item.item) g.members
has_small m _ = false

abbrev pub small_group : ℕ → PlacedModule → ℕ × GroupItem → Option Framed
small_group j m g = if has_small m.0 (Group g.1) then option_map (framed kinds.Group j g.0) (entry m.1.groups g.0) else None

-- Those of a module, segments first, counted from 1; and those of all modules, counted from 0.
abbrev pub segments_in : ℕ → PlacedModule → List Framed
segments_in j m = filter_map (small_segment j m) (enumerate_from 1 (segments m.0))

abbrev pub groups_in : ℕ → PlacedModule → List Framed
groups_in j m = filter_map (small_group j m) (enumerate_from 1 (groups m.0))

abbrev pub small_in : ℕ → PlacedModule → List Framed
small_in j m = segments_in j m ++ groups_in j m

abbrev pub all_small : List PlacedModule → List Framed
all_small ms = flat_map (λ x. small_in x.0 x.1) (enumerate_from 0 ms)

-- Frames are for real mode if one of them is of real mode and its selector is not 0; of these the first that is not.
abbrev pub tells_real : Framed → Bool
tells_real f = not (f.frame.selector == 0) && is_real f

abbrev pub unreal : List Framed → Option Framed
unreal fs = if list_any tells_real fs then find (λ f. not (is_real f)) fs else None

abbrev pub first_unreal : List PlacedModule → Option Framed
first_unreal ms = unreal (all_small ms)
