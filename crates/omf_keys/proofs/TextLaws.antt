-- By the same link text modules of equal keys have the same places.
use Rattle.std.proofs.Common.{◌≡◌, ℕ, zero, suc, ◌+◌, ◌-◌, List, [], ◌∷◌, ◌++◌, refl, sym, ◌∙◌, ap, ap₂, Bool, true, false, cond, length}
use Rattle.std.specs.Prelude.{⊤, map, filter, filter_map, find, zip, ◌&&◌, nat_le, Option, Some, None, option_map, option_and_then, unwrap_or, slice_get, bytes_eq, Result, Ok, Err}
use Rattle.std.specs.List.{AllZip, enumerate_from}
use Rattle.std.specs.Option.{option_map_or}
use Rattle.std.proofs.lemmas.List.{length-map}
use Rattle.omf_records.specs.Values.{Rec, GroupItem}
use Rattle.omf_records.specs.Inner.Seen.{map_ok}
use Rattle.omf_check.specs.Module.{Module, typed_modules}
use Rattle.omf_check.specs.Tables.{names, segments, groups, externals, entry}
use Rattle.omf_check.specs.declared.segment.SegInfo.{SegInfo}
use Rattle.omf_layout.specs.Several.Portions.{Classed}
use Rattle.omf_layout.specs.declared.several.portion.Portion.{Portion}
use Rattle.omf_placement.specs.Inner.Derived.{derived}
use Rattle.omf_placement.specs.Placement.{Places, lowest, members_placed, real_group}
use Rattle.omf_placement.specs.Weak.{with_weak}
use Rattle.omf_placement.specs.declared.frame.Frame.{Frame}
use Rattle.omf_placement.specs.declared.frame.Placed.{Placed}
use Rattle.omf_placement.specs.declared.several.given.Given.{Given}
use Rattle.omf_reloc.specs.Reach.{entries}
use Rattle.omf_reloc.specs.declared.fault.Kind.{Kind}
use Rattle.omf_reloc.specs.declared.fault.Kind.TheVariants as kinds
use Rattle.omf_linking.specs.Locator.Items.{Item, Title, segment_title, group_title, in_quotes, is_titled, shared_frame, segment_framed, group_given, or_unshared, settled, module_at, given_at, item_in, gift_item, all_items, if_any, parts_left, laid_items, sited_items, frame_gifts, alone, unless_again, current, last_end, told_kind, items_of, items_after, Opened, Given as GivenTo, Ends, segment_place, stored_address, group_frame, external_place}
use Rattle.omf_linking.specs.Locator.Keys.{module_name, entry_name, class_name, is_written, names_entry, names_module, count_from, the_one, entry_named, module_named}
use Rattle.omf_linking.specs.Locator.LinkEntries.{Key, Named, OfClass, Numbered, Parts, Lays, Frames, Target, SegmentPlace, StoredPlace, GroupFrame, Told, Own, SharedPlace, SharedStored, SharedFrame, LinkEntry, Blank, Opens, Gives, Line, link_lines}
use Rattle.omf_linking.specs.Locator.Parts.{Gift, gifts_of, groups_in, groups_named, names_part, parts_named, site_of}
use Rattle.omf_linking.specs.Locator.Sparse.{Sparse, sparse_of, sparse_all, unless_bad, bad_lines, sparse}
use Rattle.omf_linking.specs.Placing.{or_missing, frame_given, all_given, placed_by, with_segments, places_given, in_front, places_of, given_of, derived_or, found, by_sparse, linked, stored_in}
use Rattle.omf_linking.specs.declared.fault.LinkFault.{LinkFault}
use Rattle.omf_linking.specs.declared.locator.fault.LineFault.{LineFault}
use Rattle.omf_linking.specs.declared.locator.fault.LocatorFault.{LocatorFault}
use Rattle.omf_linking.specs.declared.locator.fault.LocatorFault.TheVariants as locator
use Rattle.omf_linking.specs.declared.locator.span.End.{End}
use Rattle.omf_linking.specs.declared.locator.span.Site.{Site}
use Rattle.omf_keys.specs.Keys.{bare_group, AreAlike, HaveEqualKeys}
use Rattle.omf_keys.specs.Laws.{PiecesByKeys}
use Rattle.omf_keys.specs.Memory.{HaveSamePlaces}
use Rattle.omf_keys.proofs.LayoutLaws.{all-portions, members-bare}
use Rattle.omf_keys.proofs.ListLaws.{map-ext, enum-map, enum-flat, zip-beside}
use Rattle.omf_keys.proofs.NameLaws.{AreNamesakes, alike-of, all-namesakes}
use Rattle.omf_keys.proofs.PublicLaws.{derived-same, weak-added}
use Rattle.omf_keys.proofs.TableLaws.{same-tables}

-- ---- lists and options

filter-same : {A : Type 0} (f g : A → Bool) → ((a : A) → f a ≡ g a) → (xs : List A) → filter f xs ≡ filter g xs
filter-same f g same [] = refl
filter-same {A} f g same (x ∷ xs) = ap₂ (λ (b : Bool) (ys : List A). cond b (x ∷ ys) ys) (same x) (filter-same f g same xs)

find-same : {A : Type 0} (f g : A → Bool) → ((a : A) → f a ≡ g a) → (xs : List A) → find f xs ≡ find g xs
find-same f g same [] = refl
find-same {A} f g same (x ∷ xs) = ap₂ (λ (b : Bool) (o : Option A). cond b (Some x) o) (same x) (find-same f g same xs)

-- Values at the same place of related lists.
abbrev Related : {X Y : Type 0} → (X → Y → Type 0) → Option X → Option Y → Type 0
Related R None None = ⊤
Related R (Some x) (Some y) = R x y
Related R _ _ = ⊥

get-related : {X Y : Type 0} (R : X → Y → Type 0) (xs : List X) (ys : List Y) → AllZip R xs ys → (k : ℕ) → Related R (slice_get xs k) (slice_get ys k)
get-related R [] [] h k = tt
get-related R [] (y ∷ ys) h k = absurd h
get-related R (x ∷ xs) [] h k = absurd h
get-related R (x ∷ xs) (y ∷ ys) h zero = h.0
get-related R (x ∷ xs) (y ∷ ys) h (suc k) = get-related R xs ys h.1 k

map-related : {X Y B : Type 0} (R : X → Y → Type 0) (f : X → B) (g : Y → B) → ((x : X) (y : Y) → R x y → f x ≡ g y) → (o : Option X) (p : Option Y) → Related R o p → option_map f o ≡ option_map g p
map-related R f g same None None h = refl
map-related R f g same (Some x) (Some y) h = ap Some (same x y h)
map-related R f g same None (Some y) h = absurd h
map-related R f g same (Some x) None h = absurd h

or-related : {X Y B : Type 0} (R : X → Y → Type 0) (f : X → B) (g : Y → B) (d : B) → ((x : X) (y : Y) → R x y → f x ≡ g y) → (o : Option X) (p : Option Y) → Related R o p → option_map_or f o d ≡ option_map_or g p d
or-related R f g d same None None h = refl
or-related R f g d same (Some x) (Some y) h = same x y h
or-related R f g d same None (Some y) h = absurd h
or-related R f g d same (Some x) None h = absurd h

lengths : {X Y : Type 0} (R : X → Y → Type 0) (xs : List X) (ys : List Y) → AllZip R xs ys → length xs ≡ length ys
lengths R [] [] h = refl
lengths R [] (y ∷ ys) h = absurd h
lengths R (x ∷ xs) [] h = absurd h
lengths R (x ∷ xs) (y ∷ ys) h = ap suc (lengths R xs ys h.1)

-- What does not see the places in a group is the same of one without them.
module _ {B : Type 0} (f : GroupItem → Option B) (same : (g : GroupItem) → f g ≡ f (bare_group g)) where
  get-bare : (gs : List GroupItem) (k : ℕ) → option_and_then f (slice_get gs k) ≡ option_and_then f (slice_get (map bare_group gs) k)
  get-bare [] k = refl
  get-bare (g ∷ gs) zero = same g
  get-bare (g ∷ gs) (suc k) = get-bare gs k

  cond-bare : (b : Bool) (gs : List GroupItem) (k : ℕ) → option_and_then f (cond b (slice_get gs k) None) ≡ option_and_then f (cond b (slice_get (map bare_group gs) k) None)
  cond-bare true gs k = get-bare gs k
  cond-bare false gs k = refl

  entry-bare : (gs : List GroupItem) (i : ℕ) → option_and_then f (entry gs i) ≡ option_and_then f (entry (map bare_group gs) i)
  entry-bare gs i = cond-bare (nat_le 1 i) gs (i - 1)

  entry-same : (m n : List Rec) → AreAlike m n → (i : ℕ) → option_and_then f (entry (groups m) i) ≡ option_and_then f (entry (groups n) i)
  entry-same m n h i = entry-bare (groups m) i ∙ ap (λ (gs : List GroupItem). option_and_then f (entry gs i)) (same-tables m n h).groups ∙ sym (entry-bare (groups n) i)

-- ---- the names of entries

abbrev segment_by : List (List ℕ) → List SegInfo → ℕ → Option (List ℕ)
segment_by ns ss i = option_and_then (λ s. entry ns s.name) (entry ss i)

abbrev class_by : List (List ℕ) → List SegInfo → ℕ → Option (List ℕ)
class_by ns ss i = option_and_then (λ s. entry ns s.class) (entry ss i)

abbrev group_by : List (List ℕ) → GroupItem → Option (List ℕ)
group_by ns g = entry ns g.name.item

name-same : (m n : List Rec) → AreAlike m n → (kind : Kind) (i : ℕ) → entry_name m kind i ≡ entry_name n kind i
name-same m n h kinds.Segment i = let t = same-tables m n h in ap₂ (λ (ns : List (List ℕ)) (ss : List SegInfo). segment_by ns ss i) t.names t.segments
name-same m n h kinds.Group i =
    ap (λ (ns : List (List ℕ)). option_and_then (group_by ns) (entry (groups m) i)) (same-tables m n h).names ∙ entry-same (group_by (names n)) (λ g. refl) m n h i
name-same m n h kinds.External i = ap (λ (es : List (List ℕ)). entry es i) (same-tables m n h).externals

class-same : (m n : List Rec) → AreAlike m n → (i : ℕ) → class_name m i ≡ class_name n i
class-same m n h i = let t = same-tables m n h in ap₂ (λ (ns : List (List ℕ)) (ss : List SegInfo). class_by ns ss i) t.names t.segments

entries-same : (m n : List Rec) → AreAlike m n → (kind : Kind) → entries m kind ≡ entries n kind
entries-same m n h kinds.Segment = ap (λ (ss : List SegInfo). length ss) (same-tables m n h).segments
entries-same m n h kinds.Group =
    sym (length-map {B = GroupItem} (groups m) bare_group) ∙ ap (λ (gs : List GroupItem). length gs) (same-tables m n h).groups ∙ length-map {B = GroupItem} (groups n) bare_group
entries-same m n h kinds.External = ap (λ (es : List (List ℕ)). length es) (same-tables m n h).externals

names-same : (m n : List Rec) → AreAlike m n → (k : Key) (kind : Kind) (i : ℕ) → names_entry m k kind i ≡ names_entry n k kind i
names-same m n h (Named x) kind i = ap (is_written x) (name-same m n h kind i)
names-same m n h (OfClass x c) kinds.Segment i = ap₂ (λ (a b : Option (List ℕ)). is_written x a && is_written c b) (name-same m n h kinds.Segment i) (class-same m n h i)
names-same m n h (OfClass x c) kinds.Group i = refl
names-same m n h (OfClass x c) kinds.External i = refl
names-same m n h (Numbered k) kind i = refl

entry-named : (m n : List Rec) → AreAlike m n → (kind : Kind) (k : Key) → entry_named m kind k ≡ entry_named n kind k
entry-named m n h kind k =
    ap the_one (filter-same (names_entry m k kind) (names_entry n k kind) (names-same m n h k kind) (count_from 1 (entries m kind))
    ∙ ap (λ (size : ℕ). filter (names_entry n k kind) (count_from 1 size)) (entries-same m n h kind))

segment-titled : (m n : List Rec) → AreAlike m n → (i : ℕ) → segment_title m i ≡ segment_title n i
segment-titled m n h i = ap₂ (λ (a b : Option (List ℕ)). (unwrap_or a [], unwrap_or b [])) (name-same m n h kinds.Segment i) (class-same m n h i)

group-titled : (m n : List Rec) → AreAlike m n → (i : ℕ) → group_title m i ≡ group_title n i
group-titled m n h i = ap (λ (a : Option (List ℕ)). (unwrap_or a [], [])) (name-same m n h kinds.Group i)

real-same : (m n : List Rec) → AreAlike m n → (ps : List Placed) (i : ℕ) → real_group m ps i ≡ real_group n ps i
real-same m n h ps i =
    ap (λ (o : Option (List Placed)). option_map (λ p. p.frame) (option_and_then lowest o)) (entry-same (λ g. members_placed ps g.members) (λ g. members-bare ps g.members) m n h i)

groups-in : (name : List ℕ) (j : ℕ) (m n : List Rec) → AreAlike m n → groups_in name (j, m) ≡ groups_in name (j, n)
groups-in name j m n h =
    ap (map (λ i. (j, i))) (filter-same (λ i. is_written name (entry_name m kinds.Group i)) (λ i. is_written name (entry_name n kinds.Group i)) (λ i. ap (is_written name) (name-same m n h kinds.Group i)) (count_from 1 (entries m kinds.Group))
    ∙ ap (λ (size : ℕ). filter (λ i. is_written name (entry_name n kinds.Group i)) (count_from 1 size)) (entries-same m n h kinds.Group))

-- ---- the lines of a text

abbrev sparse_sized : List Item → ℕ → ℕ → ℕ → ℕ → Sparse
sparse_sized items j ss gs es = record {
  segments = map (segment_place items j) (count_from 1 ss);
  stored = map (stored_address items j) (count_from 1 ss);
  groups = map (group_frame items j) (count_from 1 gs);
  externals = map (external_place items j) (count_from 1 es);
}

module _ (ms ns : List (List Rec)) (all : AllZip AreNamesakes ms ns) where
  alike : AllZip AreAlike ms ns
  alike = alike-of ms ns all

  at : (j : ℕ) → Related AreNamesakes (slice_get ms j) (slice_get ns j)
  at j = get-related AreNamesakes ms ns all j

  names-module : (k : Key) (j : ℕ) → names_module ms k j ≡ names_module ns k j
  names-module (Named x) j = ap (is_written x) (map-related AreNamesakes module_name module_name (λ m n h. h.name) (slice_get ms j) (slice_get ns j) (at j))
  names-module (OfClass x c) j = refl
  names-module (Numbered k) j = refl

  module-named : (k : Key) → module_named ms k ≡ module_named ns k
  module-named k =
      ap the_one (filter-same (names_module ms k) (names_module ns k) (names-module k) (count_from 0 (length ms)) ∙ ap (λ (size : ℕ). filter (names_module ns k) (count_from 0 size)) (lengths AreNamesakes ms ns all))

  parts-named : (ps : Parts) → parts_named ps ms ≡ parts_named ps ns
  parts-named ps = ap (filter (λ x. names_part ps x.0 x.1.0)) (all-portions ms ns alike)

  groups-named : (name : List ℕ) → groups_named name ms ≡ groups_named name ns
  groups-named name = enum-flat AreAlike (groups_in name) (groups_in name) (groups-in name) 0 ms ns alike

  module _ (title : List Rec → ℕ → Title) (same : (m n : List Rec) → AreAlike m n → (i : ℕ) → title m i ≡ title n i) where
    is-titled : (t : Title) (e : ℕ × ℕ) → is_titled title ms t e ≡ is_titled title ns t e
    is-titled t e =
        or-related AreNamesakes (λ m. bytes_eq t.0 (in_quotes (title m e.1)).0 && bytes_eq t.1 (in_quotes (title m e.1)).1) (λ m. bytes_eq t.0 (in_quotes (title m e.1)).0 && bytes_eq t.1 (in_quotes (title m e.1)).1) false
        (λ m n h. ap (λ (x : Title). bytes_eq t.0 (in_quotes x).0 && bytes_eq t.1 (in_quotes x).1) (same m n h.alike e.1)) (slice_get ms e.0) (slice_get ns e.0) (at e.0)

    shared-frame : (t : Title) (gs : List ((ℕ × ℕ) × Option Frame)) → shared_frame title ms t gs ≡ shared_frame title ns t gs
    shared-frame t gs = ap (option_and_then (λ g. g.1)) (find-same (λ g. is_titled title ms t g.0) (λ g. is_titled title ns t g.0) (λ g. is-titled t g.0) gs)

    shared-by : (m n : List Rec) → AreAlike m n → (i : ℕ) (gs : List ((ℕ × ℕ) × Option Frame)) → shared_frame title ms (in_quotes (title m i)) gs ≡ shared_frame title ns (in_quotes (title n i)) gs
    shared-by m n h i gs = ap (λ (t : Title). shared_frame title ms (in_quotes t) gs) (same m n h i) ∙ shared-frame (in_quotes (title n i)) gs

  settled-same : (before : List Item) (m n : List Rec) → AreAlike m n → (t : Told) (i : ℕ) → settled ms before m t i ≡ settled ns before n t i
  settled-same before m n h (Own t) i = refl
  settled-same before m n h (SharedPlace a) i =
      ap (λ (o : Option Frame). or_unshared (option_map (λ f. SegmentPlace (record { address = a; frame = f })) o)) (shared-by segment_title segment-titled m n h i (filter_map segment_framed before))
  settled-same before m n h (SharedStored a s) i =
      ap (λ (o : Option Frame). or_unshared (option_map (λ f. StoredPlace (record { address = a; frame = f }) s) o)) (shared-by segment_title segment-titled m n h i (filter_map segment_framed before))
  settled-same before m n h SharedFrame i =
      ap (λ (o : Option Frame). or_unshared (option_map (λ f. GroupFrame (Some f)) o)) (shared-by group_title group-titled m n h i (filter_map group_given before))

  given-same : (before : List Item) (j : ℕ) (m n : List Rec) → AreAlike m n → (t : Told) (r : Result ℕ LineFault) → given_at ms before (j, m) t r ≡ given_at ns before (j, n) t r
  given-same before j m n h t (Ok i) = ap (λ (r : Result Target LineFault). unless_again before (map_ok (GivenTo j i) r)) (settled-same before m n h t i)
  given-same before j m n h t (Err w) = refl

  item-same : (before : List Item) (j : ℕ) (k : Key) (t : Told) → item_in ms before (module_at ms j) k t ≡ item_in ns before (module_at ns j) k t
  item-same before j k t = by (slice_get ms j) (slice_get ns j) (at j)
    where
      by : (o p : Option (List Rec)) → Related AreNamesakes o p → item_in ms before (option_map (λ m. (j, m)) o) k t ≡ item_in ns before (option_map (λ m. (j, m)) p) k t
      by None None h = refl
      by (Some m) (Some n) h = given-same before j m n h.alike t (entry_named m (told_kind t) k) ∙ ap (given_at ns before (j, n) t) (entry-named m n h.alike (told_kind t) k)
      by None (Some n) h = absurd h
      by (Some m) None h = absurd h

  current-same : (before : List Item) (o : Option ℕ) (k : Key) (t : Told) → item_in ms before (option_and_then (module_at ms) o) k t ≡ item_in ns before (option_and_then (module_at ns) o) k t
  current-same before None k t = refl
  current-same before (Some j) k t = item-same before j k t

  abbrev after_gift : (List Item → List Gift → Result (List Item) LineFault) → List Item → List Gift → Result Item LineFault → Result (List Item) LineFault
  after_gift later before gs (Ok x) = map_ok (λ xs. x ∷ xs) (later (before ++ x ∷ []) gs)
  after_gift later before gs (Err w) = Err w

  gifts-told : (ks : List (List Rec)) (before : List Item) (g : Gift) (gs : List Gift) → all_items ks before (g ∷ gs) ≡ after_gift (all_items ks) before gs (gift_item ks before g)
  gifts-told ks before g gs = by (gift_item ks before g)
    where
      by : (r : Result Item LineFault) → elim r [ Ok x ↦ map_ok (λ xs. x ∷ xs) (all_items ks (before ++ x ∷ []) gs) | Err w ↦ Err w ] ≡ after_gift (all_items ks) before gs r
      by (Ok x) = refl
      by (Err w) = refl

  gift-by : (before : List Item) (gs : List Gift) → ((more : List Item) → all_items ms more gs ≡ all_items ns more gs) → (r : Result Item LineFault)
      → after_gift (all_items ms) before gs r ≡ after_gift (all_items ns) before gs r
  gift-by before gs later (Ok x) = ap (map_ok (λ xs. x ∷ xs)) (later (before ++ x ∷ []))
  gift-by before gs later (Err w) = refl

  gifts-same : (before : List Item) (gs : List Gift) → all_items ms before gs ≡ all_items ns before gs
  gifts-same before [] = refl
  gifts-same before (g ∷ gs) =
      gifts-told ms before g gs ∙ ap (after_gift (all_items ms) before gs) (item-same before g.0.0 (Numbered g.0.1) (Own g.1)) ∙ gift-by before gs (λ more. gifts-same more gs) (gift_item ns before g)
      ∙ sym (gifts-told ns before g gs)

  laid-same : (before : List Item) (o : Option (List Gift × End)) → laid_items ms before o ≡ laid_items ns before o
  laid-same before None = refl
  laid-same before (Some g) = ap (map_ok (λ xs. xs ++ Ends g.1 ∷ [])) (gifts-same before g.0)

  sited-same : (before : List Item) (xs : List (Classed Portion)) (r : Result Site LineFault) → sited_items ms before xs r ≡ sited_items ns before xs r
  sited-same before xs (Ok s) = laid-same before (gifts_of s (parts_left before xs))
  sited-same before xs (Err w) = refl

  items-same : (before : List Item) (o : Option LinkEntry) → items_of ms before o ≡ items_of ns before o
  items-same before None = refl
  items-same before (Some Blank) = refl
  items-same before (Some (Opens k)) = ap (λ (r : Result ℕ LineFault). alone (unless_again before (map_ok Opened r))) (module-named k)
  items-same before (Some (Gives k t)) = ap alone (current-same before (current before) k t)
  items-same before (Some (Lays ps s)) =
      ap (λ (xs : List (Classed Portion)). if_any xs (sited_items ms before xs (site_of (last_end before) s))) (parts-named ps)
      ∙ ap (if_any (parts_named ps ns)) (sited-same before (parts_named ps ns) (site_of (last_end before) s))
  items-same before (Some (Frames x f)) =
      ap (λ (es : List (ℕ × ℕ)). if_any es (all_items ms before (frame_gifts before f es))) (groups-named x)
      ∙ ap (if_any (groups_named x ns)) (gifts-same before (frame_gifts before f (groups_named x ns)))

  abbrev after_line : (List Item → Result (List Item) LocatorFault) → List Item → ℕ → Result (List Item) LineFault → Result (List Item) LocatorFault
  after_line later before number (Ok xs) = later (before ++ xs)
  after_line later before number (Err w) = Err (locator.Line number w)

  lines-told : (ks : List (List Rec)) (before : List Item) (l : Line) (ls : List Line) → items_after ks before (l ∷ ls) ≡ after_line (λ xs. items_after ks xs ls) before l.0 (items_of ks before l.1)
  lines-told ks before l ls = by (items_of ks before l.1)
    where
      by : (r : Result (List Item) LineFault) → elim r [ Ok xs ↦ items_after ks (before ++ xs) ls | Err w ↦ Err (locator.Line l.0 w) ] ≡ after_line (λ xs. items_after ks xs ls) before l.0 r
      by (Ok xs) = refl
      by (Err w) = refl

  line-by : (before : List Item) (number : ℕ) (ls : List Line) → ((more : List Item) → items_after ms more ls ≡ items_after ns more ls) → (r : Result (List Item) LineFault)
      → after_line (λ xs. items_after ms xs ls) before number r ≡ after_line (λ xs. items_after ns xs ls) before number r
  line-by before number ls later (Ok xs) = later (before ++ xs)
  line-by before number ls later (Err w) = refl

  lines-same : (before : List Item) (ls : List Line) → items_after ms before ls ≡ items_after ns before ls
  lines-same before [] = refl
  lines-same before (l ∷ ls) =
      lines-told ms before l ls ∙ ap (after_line (λ xs. items_after ms xs ls) before l.0) (items-same before l.1) ∙ line-by before l.0 ls (λ more. lines-same more ls) (items_of ns before l.1)
      ∙ sym (lines-told ns before l ls)

  -- ---- what the lines give

  sparse-of : (items : List Item) (j : ℕ) (m n : List Rec) → AreNamesakes m n → sparse_of items (j, m) ≡ sparse_of items (j, n)
  sparse-of items j m n h =
      ap₂ (λ (ss gs : ℕ). sparse_sized items j ss gs (length (externals m))) (entries-same m n h.alike kinds.Segment) (entries-same m n h.alike kinds.Group)
      ∙ ap (sparse_sized items j (length (segments n)) (length (groups n))) (entries-same m n h.alike kinds.External)

  sparse-all : (items : List Item) → sparse_all ms items ≡ sparse_all ns items
  sparse-all items = enum-map AreNamesakes (sparse_of items) (sparse_of items) (sparse-of items) 0 ms ns all

  pub sparse-same : (text : List ℕ) → sparse ms text ≡ sparse ns text
  sparse-same text =
      ap (λ (r : Result (List Item) LocatorFault). unless_bad (bad_lines text) (map_ok (sparse_all ms) r)) (lines-same [] (link_lines text))
      ∙ ap (unless_bad (bad_lines text)) (by (items_after ns [] (link_lines text)))
    where
      by : (r : Result (List Item) LocatorFault) → map_ok (sparse_all ms) r ≡ map_ok (sparse_all ns) r
      by (Ok items) = ap Ok (sparse-all items)
      by (Err w) = refl

  -- ---- the placements

  found-same : (ss : List Sparse) (r : Result (List Places) LinkFault) → found ms ss r ≡ found ns ss r
  found-same ss (Ok pls) =
      let b = zip-beside AreAlike ms ns pls alike in
      ap derived_or
      (derived-same (zip ms pls) (zip ns pls) b (with_weak (zip ms pls) (given_of ss)) ∙ ap (λ (gs : List Given). derived (zip ns pls) gs) (weak-added (zip ms pls) (zip ns pls) b (given_of ss)))
  found-same ss (Err f) = refl

frame-same : (m n : List Rec) → AreAlike m n → (ps : List Placed) (x : ℕ × Option (Option Frame)) → frame_given m ps x ≡ frame_given n ps x
frame-same m n h ps (i, None) = refl
frame-same m n h ps (i, Some None) = real-same m n h ps i
frame-same m n h ps (i, Some (Some f)) = refl

places-same : (j : ℕ) (m n : List Rec) → AreAlike m n → (s : Sparse) → places_given j m s ≡ places_given j n s
places-same j m n h s = by (or_missing j kinds.Segment (all_given 1 s.segments))
  where
    by : (r : Result (List Placed) LinkFault) → with_segments j m s.groups r ≡ with_segments j n s.groups r
    by (Ok ps) =
        ap (λ (os : List (Option Frame)). map_ok (placed_by ps) (or_missing j kinds.Group (all_given 1 os))) (map-ext (frame_given m ps) (frame_given n ps) (frame-same m n h ps) (enumerate_from 1 s.groups))
    by (Err f) = refl

places-of : (j : ℕ) (ms ns : List (List Rec)) → AllZip AreNamesakes ms ns → (ss : List Sparse) → places_of j (zip ms ss) ≡ places_of j (zip ns ss)
places-of j [] [] h ss = refl
places-of j [] (n ∷ ns) h ss = absurd h
places-of j (m ∷ ms) [] h ss = absurd h
places-of j (m ∷ ms) (n ∷ ns) h [] = refl
places-of j (m ∷ ms) (n ∷ ns) h (s ∷ ss) = ap₂ in_front (places-same j m n h.0.alike s) (places-of (j + 1) ms ns h.1 ss)

by-sparse : (ms ns : List (List Rec)) → AllZip AreNamesakes ms ns → (r : Result (List Sparse) LocatorFault) → by_sparse ms r ≡ by_sparse ns r
by-sparse ms ns h (Ok ss) = ap (found ms ss) (places-of 0 ms ns h ss) ∙ found-same ms ns h ss (places_of 0 (zip ns ss))
by-sparse ms ns h (Err f) = refl

linked-same : (ms ns : List (List Rec)) → AllZip AreNamesakes ms ns → (text : List ℕ) → linked ms text ≡ linked ns text
linked-same [] [] h text = refl
linked-same [] (n ∷ ns) h text = absurd h
linked-same (m ∷ ms) [] h text = absurd h
linked-same (m ∷ ms) (n ∷ ns) h text = ap (by_sparse (m ∷ ms)) (sparse-same (m ∷ ms) (n ∷ ns) h text) ∙ by-sparse (m ∷ ms) (n ∷ ns) h (sparse (n ∷ ns) text)

pub texts : PiecesByKeys → (ms ns : List Module) (text : List ℕ) → HaveEqualKeys ms ns → HaveSamePlaces text (typed_modules ms) (typed_modules ns)
texts pieces ms ns text h =
    let all = all-namesakes pieces ms ns h in
    record {
      linked = linked-same (typed_modules ms) (typed_modules ns) all text;
      stored = λ pls. ap (λ (r : Result (List Sparse) LocatorFault). stored_in r pls) (sparse-same (typed_modules ms) (typed_modules ns) all text);
    }
