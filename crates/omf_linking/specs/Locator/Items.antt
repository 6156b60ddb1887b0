-- The lines of a locator's text, each by the modules and by the lines before it (this profile's rule).
use Rattle.std.specs.Prelude.{ℕ, List, [], ◌∷◌, ◌++◌, filter_map, find, flat_map, Bool, false, not, filter, map, ◌==◌, ◌&&◌, Option, Some, None, bytes_eq, option_map, option_and_then, unwrap_or, is_some, slice_get, Result, Ok, Err, if◌then◌else◌}
use Rattle.std.specs.List.{list_any}
use Rattle.std.specs.Option.{option_map_or}
use Rattle.omf_frame.specs.Bytes.{last}
use Rattle.omf_records.specs.Values.{Rec}
use Rattle.omf_records.specs.Inner.Seen.{map_ok}
use Rattle.omf_layout.specs.Several.Portions.{Classed}
use Rattle.omf_layout.specs.declared.several.portion.Portion.{Portion}
use Rattle.omf_placement.specs.Quoted.{escaped}
use Rattle.omf_placement.specs.declared.frame.Frame.{Frame}
use Rattle.omf_placement.specs.declared.frame.Placed.{Placed}
use Rattle.omf_reloc.specs.declared.fault.Kind.{Kind}
use Rattle.omf_reloc.specs.declared.fault.Kind.TheVariants as kinds
use Rattle.omf_linking.specs.Locator.Keys.{class_name, entry_name, entry_named, module_named}
use Rattle.omf_linking.specs.Locator.LinkEntries.{Key, Numbered, Lays, Frames, Target, SegmentPlace, StoredPlace, GroupFrame, ExternalPlace, Told, Own, SharedPlace, SharedStored, SharedFrame, LinkEntry, Blank, Opens, Gives, Line}
use Rattle.omf_linking.specs.Locator.Parts.{Gift, gifts_of, groups_named, parts_named, site_of}
use Rattle.omf_linking.specs.declared.locator.fault.LineFault.{LineFault}
use Rattle.omf_linking.specs.declared.locator.fault.LineFault.TheVariants as why
use Rattle.omf_linking.specs.declared.locator.fault.LocatorFault.{LocatorFault}
use Rattle.omf_linking.specs.declared.locator.fault.LocatorFault.TheVariants as fault
use Rattle.omf_linking.specs.declared.locator.span.End.{End}
use Rattle.omf_linking.specs.declared.locator.span.Site.{Site}

-- What lines do: nothing; a line begins the lines of a module, by its number from 0; it gives something to an entry of a module, by its index from 1; or it ends
-- what it lays of all modules.
pub data Item : Type 0 where
  Nothing : Item
  Opened : ℕ → Item
  Given : ℕ → ℕ → Target → Item
  Ends : End → Item

-- The modules that items begin, and the one whose lines follow: that of the last `M` line.
abbrev pub opened : Item → Option ℕ
opened (Opened j) = Some j
opened _ = None

abbrev pub current : List Item → Option ℕ
current items = last (filter_map opened items)

-- The end of what the last line for segments of all modules laid.
abbrev pub ended : Item → Option End
ended (Ends e) = Some e
ended _ = None

abbrev pub last_end : List Item → Option End
last_end items = last (filter_map ended items)

-- What items give: the module and the index of an entry, and its place or its frame.
abbrev pub segment_given : Item → Option ((ℕ × ℕ) × Placed)
segment_given (Given j i (SegmentPlace p)) = Some ((j, i), p)
segment_given (Given j i (StoredPlace p s)) = Some ((j, i), p)
segment_given _ = None

-- The address at which a segment is stored, if that is not its own.
abbrev pub stored_given : Item → Option ((ℕ × ℕ) × ℕ)
stored_given (Given j i (StoredPlace p s)) = Some ((j, i), s)
stored_given _ = None

abbrev pub group_given : Item → Option ((ℕ × ℕ) × Option Frame)
group_given (Given j i (GroupFrame f)) = Some ((j, i), f)
group_given _ = None

abbrev pub external_given : Item → Option ((ℕ × ℕ) × Placed)
external_given (Given j i (ExternalPlace p)) = Some ((j, i), p)
external_given _ = None

-- What is given to an entry.
abbrev pub given_to : {V : Type 0} → List ((ℕ × ℕ) × V) → ℕ → ℕ → Option V
given_to gs j i = option_map (λ g. g.1) (find (λ g. (g.0.0 == j) && (g.0.1 == i)) gs)

abbrev pub segment_place : List Item → ℕ → ℕ → Option Placed
segment_place items j i = given_to (filter_map segment_given items) j i

abbrev pub stored_address : List Item → ℕ → ℕ → Option ℕ
stored_address items j i = given_to (filter_map stored_given items) j i

abbrev pub group_frame : List Item → ℕ → ℕ → Option (Option Frame)
group_frame items j i = given_to (filter_map group_given items) j i

abbrev pub external_place : List Item → ℕ → ℕ → Option Placed
external_place items j i = given_to (filter_map external_given items) j i

-- A line was before this one for the same module, or gives something to the same entry.
abbrev pub is_again : List Item → Item → Bool
is_again before Nothing = false
is_again before (Ends e) = false
is_again before (Opened j) = list_any (λ k. k == j) (filter_map opened before)
is_again before (Given j i (SegmentPlace p)) = is_some (segment_place before j i)
is_again before (Given j i (StoredPlace p s)) = is_some (segment_place before j i)
is_again before (Given j i (GroupFrame f)) = is_some (group_frame before j i)
is_again before (Given j i (ExternalPlace p)) = is_some (external_place before j i)

abbrev pub unless_again : List Item → Result Item LineFault → Result Item LineFault
unless_again before (Ok x) = if is_again before x then Err why.Twice else Ok x
unless_again before (Err w) = Err w

-- The kind of what is given something.
abbrev pub kind_of : Target → Kind
kind_of (SegmentPlace p) = kinds.Segment
kind_of (StoredPlace p s) = kinds.Segment
kind_of (GroupFrame f) = kinds.Group
kind_of (ExternalPlace p) = kinds.External

abbrev pub told_kind : Told → Kind
told_kind (Own t) = kind_of t
told_kind (SharedPlace a) = kinds.Segment
told_kind (SharedStored a s) = kinds.Segment
told_kind SharedFrame = kinds.Group

-- What segments and groups share a frame by: a segment its name and its class, a group its name; without a name it is empty. As it is written in quotes.
abbrev pub Title : Type 0
Title = List ℕ × List ℕ

abbrev pub segment_title : List Rec → ℕ → Title
segment_title m i = (unwrap_or (entry_name m kinds.Segment i) [], unwrap_or (class_name m i) [])

abbrev pub group_title : List Rec → ℕ → Title
group_title m i = (unwrap_or (entry_name m kinds.Group i) [], [])

abbrev pub in_quotes : Title → Title
in_quotes t = (flat_map escaped t.0, flat_map escaped t.1)

abbrev pub is_titled : (List Rec → ℕ → Title) → List (List Rec) → Title → ℕ × ℕ → Bool
is_titled title ms t e = option_map_or (λ m. bytes_eq t.0 (in_quotes (title m e.1)).0 && bytes_eq t.1 (in_quotes (title m e.1)).1) (slice_get ms e.0) false

-- The frame that a name shares: that of the first of these lines for a segment of this name and class, or for a group of this name. None if there is no such line, or
-- that line names no frame: it is `real`, of a group.
abbrev pub segment_framed : Item → Option ((ℕ × ℕ) × Option Frame)
segment_framed (Given j i (SegmentPlace p)) = Some ((j, i), Some p.frame)
segment_framed (Given j i (StoredPlace p s)) = Some ((j, i), Some p.frame)
segment_framed _ = None

abbrev pub first_titled : (List Rec → ℕ → Title) → List (List Rec) → Title → List ((ℕ × ℕ) × Option Frame) → Option ((ℕ × ℕ) × Option Frame)
first_titled title ms t gs = find (λ g. is_titled title ms t g.0) gs

abbrev pub shared_frame : (List Rec → ℕ → Title) → List (List Rec) → Title → List ((ℕ × ℕ) × Option Frame) → Option Frame
shared_frame title ms t gs = option_and_then (λ g. g.1) (first_titled title ms t gs)

-- What a line gives entry i of a module, after others.
abbrev pub or_unshared : Option Target → Result Target LineFault
or_unshared (Some t) = Ok t
or_unshared None = Err why.Unshared

abbrev pub settled : List (List Rec) → List Item → List Rec → Told → ℕ → Result Target LineFault
settled ms before m (Own t) i = Ok t
settled ms before m (SharedPlace a) i = or_unshared (option_map (λ f. SegmentPlace (record { address = a; frame = f })) (shared_frame segment_title ms (in_quotes (segment_title m i)) (filter_map segment_framed before)))
settled ms before m (SharedStored a s) i = or_unshared (option_map (λ f. StoredPlace (record { address = a; frame = f }) s) (shared_frame segment_title ms (in_quotes (segment_title m i)) (filter_map segment_framed before)))
settled ms before m SharedFrame i = or_unshared (option_map (λ f. GroupFrame (Some f)) (shared_frame group_title ms (in_quotes (group_title m i)) (filter_map group_given before)))

-- The module that a line is for: its number, and its records.
abbrev pub module_at : List (List Rec) → ℕ → Option (ℕ × List Rec)
module_at ms j = option_map (λ m. (j, m)) (slice_get ms j)

-- The item of a line after others, by its entry; or why it has none.
abbrev pub given_at : List (List Rec) → List Item → ℕ × List Rec → Told → Result ℕ LineFault → Result Item LineFault
given_at ms before m t (Ok i) = unless_again before (map_ok (Given m.0 i) (settled ms before m.1 t i))
given_at ms before m t (Err w) = Err w

abbrev pub item_in : List (List Rec) → List Item → Option (ℕ × List Rec) → Key → Told → Result Item LineFault
item_in ms before None k t = Err why.NoModule
item_in ms before (Some m) k t = given_at ms before m t (entry_named m.1 (told_kind t) k)

-- What is given to several entries, one after another: each by its module and its number, as by a line of that module.
abbrev pub gift_item : List (List Rec) → List Item → Gift → Result Item LineFault
gift_item ms before g = item_in ms before (module_at ms g.0.0) (Numbered g.0.1) (Own g.1)

abbrev pub all_items : List (List Rec) → List Item → List Gift → Result (List Item) LineFault
all_items ms before [] = Ok []
all_items ms before (g ∷ gs) = elim (gift_item ms before g) [ Ok x ↦ map_ok (λ xs. x ∷ xs) (all_items ms (before ++ x ∷ []) gs) | Err w ↦ Err w ]

-- There is one of a line's class or name.
abbrev pub if_any : {A : Type 0} → List A → Result (List Item) LineFault → Result (List Item) LineFault
if_any [] r = Err why.Unknown
if_any (x ∷ xs) r = r

-- A line lays, of the segments of its class or name, those that are not absolute and that no line before it places.
abbrev pub is_left : List Item → Portion → Bool
is_left before p = not (is_some p.segment.absolute) && not (is_some (segment_place before p.«module» p.index))

abbrev pub parts_left : List Item → List (Classed Portion) → List (Classed Portion)
parts_left before xs = filter (λ x. is_left before x.1.1) xs

abbrev pub laid_items : List (List Rec) → List Item → Option (List Gift × End) → Result (List Item) LineFault
laid_items ms before None = Err why.NoRoom
laid_items ms before (Some g) = map_ok (λ xs. xs ++ Ends g.1 ∷ []) (all_items ms before g.0)

abbrev pub sited_items : List (List Rec) → List Item → List (Classed Portion) → Result Site LineFault → Result (List Item) LineFault
sited_items ms before xs (Ok s) = laid_items ms before (gifts_of s (parts_left before xs))
sited_items ms before xs (Err w) = Err w

-- A line gives its frame to the groups of its name to which no line before it gives one.
abbrev pub is_unframed : List Item → ℕ × ℕ → Bool
is_unframed before e = not (is_some (group_frame before e.0 e.1))

abbrev pub frame_gifts : List Item → Frame → List (ℕ × ℕ) → List Gift
frame_gifts before f es = map (λ e. (e, GroupFrame (Some f))) (filter (is_unframed before) es)

-- The items of a line after others, or why it has none.
abbrev pub alone : Result Item LineFault → Result (List Item) LineFault
alone r = map_ok (λ x. x ∷ []) r

abbrev pub items_of : List (List Rec) → List Item → Option LinkEntry → Result (List Item) LineFault
items_of ms before None = Err why.NotUnderstood
items_of ms before (Some Blank) = Ok (Nothing ∷ [])
items_of ms before (Some (Opens k)) = alone (unless_again before (map_ok Opened (module_named ms k)))
items_of ms before (Some (Gives k t)) = alone (item_in ms before (option_and_then (module_at ms) (current before)) k t)
items_of ms before (Some (Lays ps s)) = if_any (parts_named ps ms) (sited_items ms before (parts_named ps ms) (site_of (last_end before) s))
items_of ms before (Some (Frames n f)) = if_any (groups_named n ms) (all_items ms before (frame_gifts before f (groups_named n ms)))

-- The items of lines after others; or the first line that has none, and why.
abbrev pub items_after : List (List Rec) → List Item → List Line → Result (List Item) LocatorFault
items_after ms before [] = Ok before
items_after ms before (l ∷ ls) = elim (items_of ms before l.1) [ Ok xs ↦ items_after ms (before ++ xs) ls | Err w ↦ Err (fault.Line l.0 w) ]
