-- Where the near communals of a program are (this profile's rule).
use Rattle.std.specs.Prelude.{ℕ, List, [], ◌∷◌, ◌==◌, ◌&&◌, find, Bool, false, Option, Some, None, option_and_then, option_map, nat_le, codes, bytes_eq, if◌then◌else◌}
use Rattle.std.specs.List.{list_any}
use Rattle.std.specs.Option.{option_map_or, option_or}
use Rattle.omf_frame.specs.Bytes.{last}
use Rattle.omf_records.specs.Values.{Contents, GroupItem, ModEnd, Rec, Subrecord}
use Rattle.omf_records.specs.declared.method.Kind.{Kind}
use Rattle.omf_records.specs.declared.method.Kind.TheVariants as kinds
use Rattle.omf_check.specs.Tables.{attributes, entry, groups, segments, subrecords}
use Rattle.omf_check.specs.Threads.{target_of}
use Rattle.omf_check.specs.declared.method.TargetMethod.{TargetMethod}
use Rattle.omf_check.specs.declared.segment.SegInfo.{SegInfo}
use Rattle.omf_layout.specs.declared.own.homes.FullName.{FullName}
use Rattle.omf_layout.specs.declared.own.homes.Home.{Home}
use Rattle.omf_layout.specs.declared.own.homes.Home.TheVariants as homes
use Rattle.omf_layout.specs.declared.own.homes.SegmentKey.{SegmentKey}
use Rattle.omf_layout.specs.declared.own.homes.SegmentKey.TheVariants as keys
use Rattle.omf_layout.specs.declared.several.portion.Combination.TheVariants.{Joined}
use Rattle.omf_layout.specs.Own.Communals.{are_grouped}
use Rattle.omf_layout.specs.Several.Order.{is_same_combination, lies_by}
use Rattle.omf_layout.specs.Several.Portions.{combination_named, name_at}

-- ---- the start

-- The segment of a start address, if its target is a segment, by its own method or by a thread (TIS OMF 1.1, "MODEND", "FIXUPP": the target methods).
abbrev pub segment_by : Kind → ℕ → Option ℕ
segment_by kinds.Segment i = Some i
segment_by _ i = None

abbrev pub target_segment : TargetMethod → Option ℕ
target_segment t = segment_by t.kind t.index

-- The segment of the start of a module with this last record, after these subrecords: a main module has bit 7 of MODEND's type byte.
abbrev pub segment_in : List Subrecord → Contents → Option ℕ
segment_in earlier (ModEnd byte start) = if nat_le 128 byte then option_and_then target_segment (option_and_then (target_of earlier) start) else None
segment_in earlier _ = None

abbrev pub start_segment : List Rec → Option ℕ
start_segment m = option_and_then (λ r. segment_in (subrecords m) r.contents) (last m)

-- ---- the groups of a segment

-- A segment is joined with others of its name and class: it is public or a stack, and not absolute. Then these two name it in all modules.
abbrev pub is_joined : SegInfo → ℕ → Bool
is_joined s attribute = is_same_combination Joined (lies_by s.absolute (combination_named attribute))

abbrev pub full_name : List Rec → SegInfo → FullName
full_name m s = record { name = name_at m s.name; class = name_at m s.class }

abbrev pub joined_name : List Rec → SegInfo → ℕ → Option FullName
joined_name m s attribute = if is_joined s attribute then Some (full_name m s) else None

abbrev pub joined_at : List Rec → ℕ → Option FullName
joined_at m k = option_and_then (λ s. option_and_then (joined_name m s) (entry (attributes m) k)) (entry (segments m) k)

-- Segment i of a module is the one that is looked for.
abbrev pub is_named : FullName → Option FullName → Bool
is_named n other = option_map_or (λ o. bytes_eq n.name o.name && bytes_eq n.class o.class) other false

abbrev pub is_member : List Rec → SegmentKey → ℕ → Bool
is_member m (keys.Index k) i = k == i
is_member m (keys.Named n) i = is_named n (joined_at m i)

-- The name of the first group of a module, and of several, that has this segment.
abbrev pub has_part : List Rec → SegmentKey → GroupItem → Bool
has_part m key g = list_any (λ x. is_member m key x.item.item) g.members

abbrev pub group_with : SegmentKey → List Rec → Option (List ℕ)
group_with key m = option_map (λ g. name_at m g.name.item) (find (has_part m key) (groups m))

abbrev pub first_group : SegmentKey → List (List Rec) → Option (List ℕ)
first_group key [] = None
first_group key (m ∷ ms) = option_or (group_with key m) (first_group key ms)

-- ---- homes

-- The group of a segment that modules have by name and class, or else the segment.
abbrev pub home_of : List (List Rec) → FullName → Home
home_of ms n = option_map_or homes.Group (first_group (keys.Named n) ms) (homes.Segment n.name n.class)

-- The group of segment k of one of these modules: the first of its module, or else the first of any. Without a group, the segment, if others are joined with it.
abbrev pub home_at : List (List Rec) → List Rec → ℕ → Home
home_at ms m k = option_map_or homes.Group (group_with (keys.Index k) m) (option_map_or (home_of ms) (joined_at m k) homes.Apart)

-- The same of the segment of the first start.
abbrev pub first_home : List (List Rec) → List (List Rec) → Home
first_home ms [] = homes.Apart
first_home ms (m ∷ more) = option_map_or (home_at ms m) (start_segment m) (first_home ms more)

-- The near communals of an .EXE program are in DGROUP, if a module has one. Those of a .COM program are in DGROUP, or else with the start: it has one frame,
-- in which all its offsets count (MS-DOS Programmer's Reference, ".COM programs").
abbrev pub dgroup_or : List (List Rec) → Home → Home
dgroup_or ms home = if are_grouped ms then homes.Group (codes "DGROUP") else home

abbrev pub exe_home : List (List Rec) → Home
exe_home ms = dgroup_or ms homes.Apart

abbrev pub com_home : List (List Rec) → Home
com_home ms = dgroup_or ms (first_home ms ms)
