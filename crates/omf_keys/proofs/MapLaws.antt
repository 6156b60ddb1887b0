-- Modules of equal keys have one map.
use Rattle.std.proofs.Common.{◌≡◌, ℕ, ◌+◌, zero, suc, List, [], ◌∷◌, ◌++◌, refl, sym, ◌∙◌, ap, ap₂, subst, false, cond}
use Rattle.std.specs.Prelude.{map, flat_map, fold, codes, decimal, Option, Some, None, option_map, option_and_then, option_to_list, slice_get, unwrap_or, ◌==◌}
use Rattle.std.specs.List.{AllZip, enumerate_from}
use Rattle.std.proofs.lemmas.Simd.{map-map}
use Rattle.omf_frame.specs.Types.{is_local}
use Rattle.omf_records.specs.Values.{Rec, Contents, Publics, Carried, GroupItem, contents_alone, unplaced}
use Rattle.omf_check.specs.Module.{Module, typed_modules}
use Rattle.omf_check.specs.Tables.{segments, groups, externals, entry}
use Rattle.omf_check.specs.declared.segment.SegInfo.{SegInfo}
use Rattle.omf_placement.specs.declared.frame.Placed.{Placed}
use Rattle.omf_placement.specs.Derive.{PlacedModule, PlacedPublic, base_of, placed_modules}
use Rattle.omf_placement.specs.Entries.{in_words}
use Rattle.omf_placement.specs.Placement.{Places}
use Rattle.omf_placement.specs.Quoted.{hex, named}
use Rattle.omf_lowering.specs.Lines.{is_linnum, carried_lines, lines_of}
use Rattle.omf_lowering.specs.Layouts.{LineNumbers}
use Rattle.omf_layout.specs.declared.several.portion.Combination.TheVariants.{Joined, Common, Alone}
use Rattle.omf_layout.specs.declared.several.portion.Portion.{Portion}
use Rattle.omf_layout.specs.Several.Order.{combined_by, runs}
use Rattle.omf_listing.specs.Combined.{CombinedSegment, part, part_in, part_at, with_part, run_segments, combined_segments, by_start}
use Rattle.omf_listing.specs.Publics.{by_name, by_value}
use Rattle.omf_listing.specs.Sorted.{AreSorted}
use Rattle.omf_map.specs.Addresses.{Addresses, AddressedModule, address_at, NamedAddress, base_at, public_at, publics_in, publics_asked, publics_of, addresses_of, addressed}
use Rattle.omf_map.specs.Far.{far_line, whole_line, selector_or_dash, group_line, group_lines, line_within, lines_at, source_lines, IsProgramMap}
use Rattle.omf_map.specs.MapText.{line, address_or_dash, stored_end, segment_line, segment_lines, public_line, public_lines, external_line, external_lines, map_text}
use Rattle.omf_keys.specs.Keys.{bare_group, AreAlike}
use Rattle.omf_keys.proofs.KeptLaws.{IsKeptTable, same-records, either}
use Rattle.omf_keys.proofs.LayoutLaws.{all-runs}
use Rattle.omf_keys.proofs.ListLaws.{filter-ext, flat-ext, enum-flat, Beside, by-value, zip-beside}
use Rattle.omf_keys.proofs.NameLaws.{AreNamesakes, alike-of}
use Rattle.omf_keys.proofs.PublicLaws.{AreBeside, all-publics}
use Rattle.omf_keys.proofs.TableLaws.{same-tables}

option-ext : {A B : Type 0} (f g : A → B) → ((a : A) → f a ≡ g a) → (o : Option A) → option_map f o ≡ option_map g o
option-ext f g same None = refl
option-ext f g same (Some a) = ap Some (same a)

get-with : {X B : Type 0} (R : X → X → Type 0) (f g : X → Option B) → ((x y : X) → R x y → f x ≡ g y) → (xs ys : List X) → AllZip R xs ys → (k : ℕ) → option_and_then f (slice_get xs k) ≡ option_and_then g (slice_get ys k)
get-with R f g same [] [] h k = refl
get-with R f g same [] (y ∷ ys) h k = absurd h
get-with R f g same (x ∷ xs) [] h k = absurd h
get-with R f g same (x ∷ xs) (y ∷ ys) h zero = same x y h.0
get-with R f g same (x ∷ xs) (y ∷ ys) h (suc k) = get-with R f g same xs ys h.1 k

-- ---- combined segments

abbrev named_in : List (List ℕ) → ℕ → List ℕ
named_in ns i = unwrap_or (entry ns i) []

abbrev part_by : List (List ℕ) → Portion → Placed → CombinedSegment
part_by ns p place = record { class = named_in ns p.segment.class; name = named_in ns p.segment.name; start = place.address; end = place.address + p.segment.length }

part-same : (p : Portion) (m n : List Rec) → AreAlike m n → (place : Placed) → part p m place ≡ part p n place
part-same p m n h place = ap (λ (ns : List (List ℕ)). part_by ns p place) (same-tables m n h).names

module _ (ms ns : List (List Rec)) (all : AllZip AreAlike ms ns) (pls : List Places) where
  part-at : (p : Portion) → part_at ms pls p ≡ part_at ns pls p
  part-at p = ap (λ (o : Option CombinedSegment). cond (p.segment.length == 0) None o)
      (get-with AreAlike (λ m. option_and_then (part_in p m) (slice_get pls p.«module»)) (λ m. option_and_then (part_in p m) (slice_get pls p.«module»))
      (λ m n h. by m n h (slice_get pls p.«module»)) ms ns all p.«module»)
    where
      by : (m n : List Rec) → AreAlike m n → (o : Option Places) → option_and_then (part_in p m) o ≡ option_and_then (part_in p n) o
      by m n h None = refl
      by m n h (Some pl) = option-ext (part p m) (part p n) (part-same p m n h) (entry pl.segments p.index)

  run-same : (run : List Portion) → run_segments ms pls run ≡ run_segments ns pls run
  run-same run =
      let parts = λ (ps : List Portion). filter-ext (part_at ms pls) (part_at ns pls) part-at ps in
      ap₂ (λ (xs ys : List CombinedSegment). xs ++ ys)
      (ap (λ (ps : List CombinedSegment). option_to_list (fold with_part None ps)) (parts (combined_by Joined run)))
      (ap₂ (λ (xs ys : List CombinedSegment). xs ++ ys)
      (ap (λ (ps : List CombinedSegment). option_to_list (fold with_part None ps)) (parts (combined_by Common run)))
      (parts (combined_by Alone run)))

  combined-same : combined_segments ms pls ≡ combined_segments ns pls
  combined-same = flat-ext (run_segments ms pls) (run_segments ns pls) run-same (runs ms) ∙ ap (flat_map (run_segments ns pls)) (all-runs ms ns all)

-- ---- lines

publics-bare : (segs : List (Option ℕ)) (c : Contents) → publics_in segs c ≡ publics_in segs (contents_alone c)
publics-bare segs (Publics p) = sym (map-map (public_at (base_at segs p.segment.item p.frame)) unplaced p.items)
publics-bare segs _ = refl

asked-kept : (segs : List (Option ℕ)) → IsKeptTable (publics_asked false segs)
asked-kept segs = record {
  bare = λ kind c. ap (λ (ps : List NamedAddress). cond (is_local kind) [] ps) (publics-bare segs c);
  fixups = λ kind subs. either (is_local kind) [];
  end = λ kind byte start. either (is_local kind) [];
}

publics-of : (segs : List (Option ℕ)) (m n : List Rec) → AreAlike m n → publics_of false (m, segs) ≡ publics_of false (n, segs)
publics-of segs m n h = same-records (publics_asked false segs) (asked-kept segs) m n h

abbrev segment_by : ℕ → Addresses → List (List ℕ) → ℕ × SegInfo → List ℕ
segment_by j a ns s = in_words (codes "segment" ∷ decimal j ∷ decimal s.0 ∷ address_or_dash (address_at a.segments s.0) ∷ hex 8 s.1.length ∷ named ns s.1.name ∷ named ns s.1.class ∷ []) ++ stored_end (address_at a.stored s.0)

segment-lines : (j : ℕ) (m n : List Rec) (a : Addresses) → AreAlike m n → segment_lines (j, (m, a)) ≡ segment_lines (j, (n, a))
segment-lines j m n a h =
    flat-ext (segment_line j (m, a)) (segment_line j (n, a)) (λ s. ap (λ (ns : List (List ℕ)). segment_by j a ns s) (same-tables m n h).names) (enumerate_from 1 (segments m))
    ∙ ap (λ (ss : List SegInfo). flat_map (segment_line j (n, a)) (enumerate_from 1 ss)) (same-tables m n h).segments

public-lines : (j : ℕ) (m n : List Rec) (a : Addresses) → AreAlike m n → public_lines (j, (m, a)) ≡ public_lines (j, (n, a))
public-lines j m n a h = ap (flat_map (public_line j)) (publics-of a.segments m n h)

external-lines : (j : ℕ) (m n : List Rec) (a : Addresses) → AreAlike m n → external_lines (j, (m, a)) ≡ external_lines (j, (n, a))
external-lines j m n a h =
    flat-ext (external_line j (m, a)) (external_line j (n, a)) (λ e. refl) (enumerate_from 1 (externals m))
    ∙ ap (λ (es : List (List ℕ)). flat_map (external_line j (n, a)) (enumerate_from 1 es)) (same-tables m n h).externals

-- ---- groups and lines of the source

enum-groups : {B : Type 0} (f : ℕ × GroupItem → List B) → ((i : ℕ) (g : GroupItem) → f (i, g) ≡ f (i, bare_group g)) → (i : ℕ) (gs : List GroupItem) → flat_map f (enumerate_from i gs) ≡ flat_map f (enumerate_from i (map bare_group gs))
enum-groups f same i [] = refl
enum-groups {B} f same i (g ∷ gs) = ap₂ (λ (b bs : List B). b ++ bs) (same i g) (enum-groups f same (i + 1) gs)

abbrev group_by : ℕ → Places → List (List ℕ) → ℕ × GroupItem → List ℕ
group_by j pl ns g = line (codes "group" ∷ decimal j ∷ decimal g.0 ∷ selector_or_dash (entry pl.groups g.0) ∷ named ns g.1.name.item ∷ [])

group-lines : (j : ℕ) (m n : List Rec) (pl : Places) → AreAlike m n → group_lines (j, (m, pl)) ≡ group_lines (j, (n, pl))
group-lines j m n pl h =
    flat-ext (group_line j (m, pl)) (group_line j (n, pl)) (λ g. ap (λ (ns : List (List ℕ)). group_by j pl ns g) (same-tables m n h).names) (enumerate_from 1 (groups m))
    ∙ enum-groups (group_line j (n, pl)) (λ i g. refl) 1 (groups m)
    ∙ ap (λ (gs : List GroupItem). flat_map (group_line j (n, pl)) (enumerate_from 1 gs)) (same-tables m n h).groups
    ∙ sym (enum-groups (group_line j (n, pl)) (λ i g. refl) 1 (groups n))

carried-bare : (kind : ℕ) (c : Contents) → carried_lines kind c ≡ carried_lines kind (contents_alone c)
carried-bare kind (Carried body) = refl
carried-bare kind _ = refl

lines-kept : (j : ℕ) (x : PlacedModule) → IsKeptTable (λ kind c. lines_at j x (lines_of kind c))
lines-kept j x = record {
  bare = λ kind c. ap (λ (o : Option LineNumbers). lines_at j x (cond (is_linnum kind) o None)) (carried-bare kind c);
  fixups = λ kind subs. ap (lines_at j x) (either {A = Option LineNumbers} (is_linnum kind) None);
  end = λ kind byte start. ap (lines_at j x) (either {A = Option LineNumbers} (is_linnum kind) None);
}

abbrev size_in : List SegInfo → ℕ → ℕ
size_in ss index = unwrap_or (option_map (λ s. s.length) (entry ss index)) 0

abbrev lines_by : ℕ → Places → LineNumbers → List ℕ → List SegInfo → List ℕ
lines_by j pl l name ss = flat_map (λ base. flat_map (line_within j name base (size_in ss l.segment)) l.items) (option_to_list (base_of pl l.group l.segment None))

lines-same : (j : ℕ) (m n : List Rec) (pl : Places) → AreNamesakes m n → (o : Option LineNumbers) → lines_at j (m, pl) o ≡ lines_at j (n, pl) o
lines-same j m n pl h None = refl
lines-same j m n pl h (Some l) = ap₂ (λ (name : List ℕ) (ss : List SegInfo). lines_by j pl l name ss) h.name (same-tables m n h.alike).segments

source-lines : (j : ℕ) (m n : List Rec) (pl : Places) → AreNamesakes m n → source_lines (j, (m, pl)) ≡ source_lines (j, (n, pl))
source-lines j m n pl h =
    flat-ext (λ (r : Rec). lines_at j (m, pl) (lines_of r.kind r.contents)) (λ r. lines_at j (n, pl) (lines_of r.kind r.contents)) (λ r. lines-same j m n pl h (lines_of r.kind r.contents)) m
    ∙ same-records (λ kind c. lines_at j (n, pl) (lines_of kind c)) (lines-kept j (n, pl)) m n h.alike

-- ---- the map

-- The same of each module with one value, for modules with equal values.
enum-beside : {Z : Type 0} (f : ℕ × (List Rec × Z) → List ℕ) → ((j : ℕ) (m n : List Rec) (z : Z) → AreAlike m n → f (j, (m, z)) ≡ f (j, (n, z)))
    → (xs ys : List (List Rec × Z)) → AllZip (λ a b. Beside AreAlike a b) xs ys → flat_map f (enumerate_from 1 xs) ≡ flat_map f (enumerate_from 1 ys)
enum-beside f same xs ys all = enum-flat (λ a b. Beside AreAlike a b) f f (λ j. by-value AreAlike (λ a. f (j, a)) (λ b. f (j, b)) (same j)) 1 xs ys all

map-same : (xs ys : List AddressedModule) → AllZip (λ a b. Beside AreAlike a b) xs ys → map_text xs ≡ map_text ys
map-same xs ys all =
    ap₂ (λ (a b : List ℕ). a ++ b)
    (ap₂ (λ (a b : List ℕ). a ++ b) (enum-beside segment_lines segment-lines xs ys all) (enum-beside public_lines public-lines xs ys all))
    (enum-beside external_lines external-lines xs ys all)

named-beside : {Z : Type 0} (f : ℕ × (List Rec × Z) → List ℕ) → ((j : ℕ) (m n : List Rec) (z : Z) → AreNamesakes m n → f (j, (m, z)) ≡ f (j, (n, z)))
    → (xs ys : List (List Rec × Z)) → AllZip (λ a b. Beside AreNamesakes a b) xs ys → flat_map f (enumerate_from 1 xs) ≡ flat_map f (enumerate_from 1 ys)
named-beside f same xs ys all = enum-flat (λ a b. Beside AreNamesakes a b) f f (λ j. by-value AreNamesakes (λ a. f (j, a)) (λ b. f (j, b)) (same j)) 1 xs ys all

module _ (ms ns : List Module) (pls : List Places) (names : AllZip AreNamesakes (typed_modules ms) (typed_modules ns)) where
  all : AllZip AreAlike (typed_modules ms) (typed_modules ns)
  all = alike-of (typed_modules ms) (typed_modules ns) names

  placed-all : AllZip AreBeside (placed_modules ms pls) (placed_modules ns pls)
  placed-all = zip-beside AreAlike (typed_modules ms) (typed_modules ns) pls all

  text-same : (segments : List CombinedSegment) (by_names values : List PlacedPublic)
      → map_text (addressed (typed_modules ms) pls) ++ flat_map whole_line segments ++ flat_map group_lines (enumerate_from 1 (placed_modules ms pls))
      ++ flat_map (far_line (codes "name")) by_names ++ flat_map (far_line (codes "value")) values ++ flat_map source_lines (enumerate_from 1 (placed_modules ms pls))
      ≡ map_text (addressed (typed_modules ns) pls) ++ flat_map whole_line segments ++ flat_map group_lines (enumerate_from 1 (placed_modules ns pls))
      ++ flat_map (far_line (codes "name")) by_names ++ flat_map (far_line (codes "value")) values ++ flat_map source_lines (enumerate_from 1 (placed_modules ns pls))
  text-same segments by_names values =
      ap₂ (λ (a b : List ℕ). a ++ flat_map whole_line segments ++ b ++ flat_map (far_line (codes "name")) by_names ++ flat_map (far_line (codes "value")) values ++ flat_map source_lines (enumerate_from 1 (placed_modules ms pls)))
      (map-same (addressed (typed_modules ms) pls) (addressed (typed_modules ns) pls) (zip-beside AreAlike (typed_modules ms) (typed_modules ns) (map addresses_of pls) all))
      (enum-beside group_lines group-lines (placed_modules ms pls) (placed_modules ns pls) placed-all)
      ∙ ap (λ (c : List ℕ). map_text (addressed (typed_modules ns) pls) ++ flat_map whole_line segments ++ flat_map group_lines (enumerate_from 1 (placed_modules ns pls))
      ++ flat_map (far_line (codes "name")) by_names ++ flat_map (far_line (codes "value")) values ++ c)
      (named-beside source_lines source-lines (placed_modules ms pls) (placed_modules ns pls) (zip-beside AreNamesakes (typed_modules ms) (typed_modules ns) pls names))

  pub same-map : (text : List ℕ) → IsProgramMap ms pls text → IsProgramMap ns pls text
  same-map text is = record {
    segments = is.segments;
    names = is.names;
    values = is.values;
    by_address = subst (λ (xs : List CombinedSegment). AreSorted by_start xs is.segments) (combined-same (typed_modules ms) (typed_modules ns) all pls) is.by_address;
    by_name = subst (λ (xs : List PlacedPublic). AreSorted by_name xs is.names) (all-publics (placed_modules ms pls) (placed_modules ns pls) placed-all) is.by_name;
    by_value = subst (λ (xs : List PlacedPublic). AreSorted by_value xs is.values) (all-publics (placed_modules ms pls) (placed_modules ns pls) placed-all) is.by_value;
    printed = is.printed ∙ text-same is.segments is.names is.values;
  }
