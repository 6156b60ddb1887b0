-- Parts of one segment, and groups of one name, with different frames (this profile's rule). Parts of one name and class that combine are one segment, and
-- groups of one name are one group (TIS OMF 1.1, "SEGDEF", C field, and "GRPDEF"), so what refers to them counts from one frame.
use Rattle.std.specs.Prelude.{ℕ, List, [], ◌∷◌, Bool, not, ◌==◌, ◌&&◌, find, filter_map, flat_map, Option, Some, None, option_map, option_and_then, slice_get}
use Rattle.std.specs.List.{enumerate_from}
use Rattle.omf_check.specs.Module.{Module, typed_modules}
use Rattle.omf_check.specs.Tables.{entry, groups}
use Rattle.omf_layout.specs.Several.Gathered.{gathered}
use Rattle.omf_layout.specs.Several.Order.{combined_by, runs}
use Rattle.omf_layout.specs.Several.Portions.{Named, name_at}
use Rattle.omf_layout.specs.declared.several.portion.Combination.{Combination}
use Rattle.omf_layout.specs.declared.several.portion.Combination.TheVariants.{Joined, Common}
use Rattle.omf_layout.specs.declared.several.portion.Portion.{Portion}
use Rattle.omf_placement.specs.Derive.{PlacedModule, placed_modules}
use Rattle.omf_placement.specs.Placement.{Places}
use Rattle.omf_placement.specs.declared.frame.Frame.{Frame}
use Rattle.omf_records.specs.Values.{Contents, Group, GroupItem, Rec}
use Rattle.omf_reloc.specs.declared.fault.Kind.{Kind}
use Rattle.omf_reloc.specs.declared.fault.Kind.TheVariants as kinds
use Rattle.omf_warnings.specs.Wide.{first_some, or_else}
use Rattle.omf_warnings.specs.declared.frames.Framed.{Framed}

-- A frame is a base and a selector. Two differ in one of these.
abbrev pub differs : Framed → Framed → Bool
differs a b = not ((a.frame.base == b.frame.base) && (a.frame.selector == b.frame.selector))

-- The first of several, and the first after it with another frame.
abbrev pub split : List Framed → Option (Framed × Framed)
split [] = None
split (x ∷ xs) = option_map (λ y. (x, y)) (find (differs x) xs)

-- ---- parts of a segment

abbrev pub framed : Kind → ℕ → ℕ → Frame → Framed
framed kind j i f = record { kind = kind; «module» = j; index = i; frame = f }

-- A segment of one of several modules with the frame of its place. None if it has no place.
abbrev pub framed_at : List Places → Portion → Option Framed
framed_at pls p = option_map (λ x. framed kinds.Segment p.«module» p.index x.frame) (option_and_then (λ pl. entry pl.segments p.index) (slice_get pls p.«module»))

-- Of the segments of one class and name: those that are joined (C = 2, 4, 5, 7), and those that are common (C = 6). An absolute one is neither.
abbrev pub split_in : List Places → Combination → List Portion → Option (Framed × Framed)
split_in pls c run = split (filter_map (framed_at pls) (combined_by c run))

abbrev pub split_run : List Places → List Portion → Option (Framed × Framed)
split_run pls run = or_else (split_in pls Joined run) (split_in pls Common run)

-- The first two parts of a segment with different frames, in the order of the classes and names.
abbrev pub first_parts : List (List Rec) → List Places → Option (Framed × Framed)
first_parts ms pls = first_some (split_run pls) (runs ms)

-- ---- groups of a name

-- A group with its name, by its GRPDEF.
abbrev pub group_in : List Rec → Framed → Contents → Option (Named Framed)
group_in m f (Group g) = Some (name_at m g.name.item, f)
group_in m f _ = None

-- A group of module j with its frame. None if it has none. The groups of a module, counted from 1, and those of all modules, counted from 0.
abbrev pub group_framed : ℕ → PlacedModule → ℕ × GroupItem → Option (Named Framed)
group_framed j m g = option_and_then (λ f. group_in m.0 (framed kinds.Group j g.0 f) (Group g.1)) (entry m.1.groups g.0)

abbrev pub groups_in : ℕ → PlacedModule → List (Named Framed)
groups_in j m = filter_map (group_framed j m) (enumerate_from 1 (groups m.0))

abbrev pub all_groups : List PlacedModule → List (Named Framed)
all_groups ms = flat_map (λ x. groups_in x.0 x.1) (enumerate_from 0 ms)

-- The first two groups of one name with different frames, in the order of the names.
abbrev pub first_groups : List PlacedModule → Option (Framed × Framed)
first_groups ms = first_some split (gathered (all_groups ms))

-- The first two parts of one segment, or else the first two groups of one name.
abbrev pub first_split : List Module → List Places → Option (Framed × Framed)
first_split ms pls = or_else (first_parts (typed_modules ms) pls) (first_groups (placed_modules ms pls))
