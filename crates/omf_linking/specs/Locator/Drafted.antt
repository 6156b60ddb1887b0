-- The lines of a draft, by their entries: each names its module or entry by a key (this profile's rule).
use Rattle.std.specs.Prelude.{◌≡◌, ◌≤◌, ⊤, ℕ, zero, suc, ◌+◌, List, [], ◌∷◌, ◌++◌, length, map, flat_map, zip, Bool, true, false, ◌==◌, ◌&&◌, ◌||◌, not, Option, Some, None, is_some, Ok, if◌then◌else◌}
use Rattle.std.specs.List.{enumerate_from}
use Rattle.std.specs.Option.{option_map_or}
use Rattle.omf_records.specs.Values.{Rec, combination}
use Rattle.omf_check.specs.Tables.{attributes, entry, segments, groups, externals}
use Rattle.omf_placement.specs.Placement.{Places}
use Rattle.omf_placement.specs.declared.frame.Frame.{Frame}
use Rattle.omf_placement.specs.declared.frame.Placed.{Placed}
use Rattle.omf_reloc.specs.declared.fault.Kind.TheVariants as kinds
use Rattle.omf_linking.specs.Locator.KeyForms.{key_form, key_of, module_key}
use Rattle.omf_linking.specs.Locator.Items.{Title, first_titled, group_title, in_quotes, segment_title}
use Rattle.omf_linking.specs.Locator.Keys.{entry_named, module_named}
use Rattle.omf_linking.specs.Locator.LinkEntries.{Key, SegmentPlace, GroupFrame, Told, Own, SharedPlace, SharedFrame, LinkEntry, Blank, Opens, Gives}
use Rattle.omf_linking.specs.Locator.Sparse.{Sparse}

-- There are as many places and frames as the module has segments and groups.
pub record HasEntries (m : List Rec) (pl : Places) : Type 0 where
  pub segments : length pl.segments ≡ length (segments m)
  pub groups : length pl.groups ≡ length (groups m)
  pub externals : pl.externals ≡ []

-- Exactly the places of a module's segments and the frames of its groups, and none of its externals. No segment is stored elsewhere.
abbrev pub told_places : List Rec × Places → Sparse
told_places m = record { segments = map Some m.1.segments; stored = map (λ s. None) (segments m.0); groups = map (λ f. Some (Some f)) m.1.groups; externals = map (λ e. None) (externals m.0) }

-- Which segments and groups of a module share the frame of their name, by their indices and frames.
pub record Sharing : Type 0 where
  pub segment : ℕ → Frame → Bool
  pub group : ℕ → Frame → Bool

-- The keys by which the lines of a module name it, its segments and its groups; which of these share a frame; and how many comments are after these lines.
pub record Labels : Type 0 where
  pub opening : Key
  pub segment : ℕ → Key
  pub group : ℕ → Key
  pub shares : Sharing
  pub count : ℕ

abbrev pub segment_told : Bool → Placed → Told
segment_told shared p = if shared then SharedPlace p.address else Own (SegmentPlace p)

abbrev pub group_told : Bool → Frame → Told
group_told shared f = if shared then SharedFrame else Own (GroupFrame (Some f))

-- The lines of segments, of groups and of a module: the line that begins them, one for each segment and each group, and comments.
abbrev pub blanks : ℕ → List LinkEntry
blanks zero = []
blanks (suc c) = Blank ∷ blanks c

abbrev pub segment_lines_of : Labels → ℕ → List Placed → List LinkEntry
segment_lines_of q s ps = map (λ y. Gives (q.segment y.0) (segment_told (q.shares.segment y.0 y.1.frame) y.1)) (enumerate_from s ps)

abbrev pub group_lines_of : Labels → ℕ → List Frame → List LinkEntry
group_lines_of q g fs = map (λ y. Gives (q.group y.0) (group_told (q.shares.group y.0 y.1) y.1)) (enumerate_from g fs)

abbrev pub module_lines : Labels → Places → List LinkEntry
module_lines q pl = Opens q.opening ∷ (segment_lines_of q 1 pl.segments ++ (group_lines_of q 1 pl.groups ++ blanks q.count))

-- The frames of segments and of groups of modules, in the order of the lines.
abbrev pub segments_framed : ℕ → ℕ → List Placed → List ((ℕ × ℕ) × Option Frame)
segments_framed j s ps = map (λ y. ((j, y.0), Some y.1.frame)) (enumerate_from s ps)

abbrev pub groups_framed : ℕ → ℕ → List Frame → List ((ℕ × ℕ) × Option Frame)
groups_framed j g fs = map (λ y. ((j, y.0), Some y.1)) (enumerate_from g fs)

abbrev pub all_segments : ℕ → List Places → List ((ℕ × ℕ) × Option Frame)
all_segments a pls = flat_map (λ x. segments_framed x.0 1 x.1.segments) (enumerate_from a pls)

abbrev pub all_groups : ℕ → List Places → List ((ℕ × ℕ) × Option Frame)
all_groups a pls = flat_map (λ x. groups_framed x.0 1 x.1.groups) (enumerate_from a pls)

-- An entry in this frame shares that of the first of its name, if it is not the first itself and is in the same frame.
abbrev pub is_same : Option Frame → Frame → Bool
is_same None f = false
is_same (Some g) f = (g.base == f.base) && (g.selector == f.selector)

abbrev pub is_same_part : Option Frame → Option Frame → Bool
is_same_part o None = false
is_same_part o (Some f) = is_same o f

abbrev pub is_sharing : ℕ × ℕ → Frame → Option ((ℕ × ℕ) × Option Frame) → Bool
is_sharing at f None = false
is_sharing at f (Some first) = not ((first.0.0 == at.0) && (first.0.1 == at.1)) && is_same first.1 f

abbrev pub sharing : (List Rec → ℕ → Title) → List (List Rec) → List ((ℕ × ℕ) × Option Frame) → ℕ → List Rec → ℕ → Frame → Bool
sharing title ms all j m i f = is_sharing (j, i) f (first_titled title ms (in_quotes (title m i)) all)

-- The lines of all modules.
abbrev pub all_lines : List Places → List Labels → List LinkEntry
all_lines (pl ∷ pls) (q ∷ qs) = module_lines q pl ++ all_lines pls qs
all_lines _ _ = []

-- Lines with these entries, numbered from n.
abbrev pub told_from : {E : Type 0} → ℕ → List E → List (ℕ × Option E)
told_from n es = map (λ l. (l.0, Some l.1)) (enumerate_from n es)

-- Where lines of a module share a frame, it is that of the first line of their name, which is another, in the same frame.
pub record AreShared (ms : List (List Rec)) (all : List Places) (j : ℕ) (m : List Rec) (s : Sharing) : Type 0 where
  pub segments : (i : ℕ) (f : Frame) → s.segment i f ≡ true → sharing segment_title ms (all_segments 0 all) j m i f ≡ true
  pub groups : (i : ℕ) (f : Frame) → s.group i f ≡ true → sharing group_title ms (all_groups 0 all) j m i f ≡ true

-- The keys name module j of the input, and each segment and group of it; those that share a frame share it. Those of each module, the first with number a.
pub record AreNamed (ms : List (List Rec)) (all : List Places) (j : ℕ) (m : List Rec) (q : Labels) : Type 0 where
  pub «module» : module_named ms q.opening ≡ Ok j
  pub segments : (i : ℕ) → 1 ≤ i → i ≤ length (segments m) → entry_named m kinds.Segment (q.segment i) ≡ Ok i
  pub groups : (i : ℕ) → 1 ≤ i → i ≤ length (groups m) → entry_named m kinds.Group (q.group i) ≡ Ok i
  pub shared : AreShared ms all j m q.shares

abbrev pub AllNamed : List (List Rec) → List Places → ℕ → List (List Rec) → List Places → List Labels → Type 0
AllNamed ms all a [] [] [] = ⊤
AllNamed ms all a (m ∷ ns) (pl ∷ pls) (q ∷ qs) = AreNamed ms all a m q × (HasEntries m pl × AllNamed ms all (a + 1) ns pls qs)
AllNamed ms all a _ _ _ = ⊥

-- A part of a segment that modules have together: public, stack or common (C = 2, 4, 5, 6, 7), and not absolute (TIS OMF 1.1, "SEGDEF").
abbrev pub is_combined : ℕ → Bool
is_combined c = (c == 2) || ((c == 4) || ((c == 5) || ((c == 6) || (c == 7))))

abbrev pub is_part : List Rec → ℕ → Bool
is_part m i = option_map_or (λ s. not (is_some s.absolute)) (entry (segments m) i) false && option_map_or (λ a. is_combined (combination a)) (entry (attributes m) i) false

-- The frame of a segment, if it is such a part; those of all segments of modules.
abbrev pub part_frame : List Rec → ℕ → Frame → Option Frame
part_frame m i f = if is_part m i then Some f else None

abbrev pub parts_framed : ℕ → List Rec → List Placed → List ((ℕ × ℕ) × Option Frame)
parts_framed j m ps = map (λ y. ((j, y.0), part_frame m y.0 y.1.frame)) (enumerate_from 1 ps)

abbrev pub all_parts : ℕ → List (List Rec) → List Places → List ((ℕ × ℕ) × Option Frame)
all_parts a ms pls = flat_map (λ x. parts_framed x.0 x.1.0 x.1.1.segments) (enumerate_from a (zip ms pls))

-- In a draft a segment shares if it is a part, another segment is the first of its name and class, and that is a part in the same frame. A group shares if another group
-- is the first of its name, in the same frame.
abbrev pub sharing_of : List (List Rec) → List Places → ℕ → List Rec → Sharing
sharing_of ms pls j m = record {
  segment = λ i f. is_part m i && sharing segment_title ms (all_parts 0 ms pls) j m i f;
  group = λ i f. sharing group_title ms (all_groups 0 pls) j m i f;
}

-- Of each segment and each group, whether it shares.
abbrev pub Shared : Type 0
Shared = List Bool × List Bool

abbrev pub shared_by : Sharing → Places → Shared
shared_by s pl = (map (λ y. s.segment y.0 y.1.frame) (enumerate_from 1 pl.segments), map (λ y. s.group y.0 y.1) (enumerate_from 1 pl.groups))

abbrev pub all_shared : List (List Rec) → List Places → List Shared
all_shared ms pls = map (λ x. shared_by (sharing_of ms pls x.0 x.1.0) x.1.1) (enumerate_from 0 (zip ms pls))

-- The labels by which a draft names modules and their entries, where lines share frames so.
abbrev pub labels : (ℕ → List Rec → Sharing) → List (List Rec) → ℕ → List Rec → ℕ → Labels
labels shares ms j m c = record {
  opening = module_key ms j m;
  segment = λ i. key_of m kinds.Segment (key_form m kinds.Segment i) i;
  group = λ i. key_of m kinds.Group (key_form m kinds.Group i) i;
  shares = shares j m;
  count = c;
}

abbrev pub labels_from : (ℕ → List Rec → Sharing) → List (List Rec) → ℕ → List (List Rec) → List ℕ → List Labels
labels_from shares ms a (m ∷ ns) (c ∷ cs) = labels shares ms a m c ∷ labels_from shares ms (a + 1) ns cs
labels_from shares ms a _ _ = []
