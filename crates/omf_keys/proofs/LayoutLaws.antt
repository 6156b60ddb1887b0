-- Segments and groups are laid in the same places.
use Rattle.std.proofs.Common.{◌≡◌, ℕ, List, [], ◌∷◌, refl, sym, ◌∙◌, ap, ap₂}
use Rattle.std.specs.Prelude.{map, filter_map, zip, length, Option, Some, None, option_map, option_and_then, unwrap_or}
use Rattle.std.specs.List.{AllZip, enumerate_from, range_with_len}
use Rattle.omf_frame.specs.Bytes.{is_one_of}
use Rattle.omf_records.specs.Values.{At, Rec, Contents, Comment, GroupItem, contents_alone, unplaced, nowhere}
use Rattle.omf_check.specs.Tables.{names, segments, attributes, groups, entry}
use Rattle.omf_check.specs.declared.segment.SegInfo.{SegInfo}
use Rattle.omf_placement.specs.declared.frame.Frame.{Frame}
use Rattle.omf_placement.specs.declared.frame.Placed.{Placed}
use Rattle.omf_placement.specs.Placement.{Places, lowest, members_placed}
use Rattle.omf_layout.specs.declared.options.Frames.{Frames}
use Rattle.omf_layout.specs.declared.options.Options.{Options}
use Rattle.omf_layout.specs.declared.several.portion.Portion.{Portion}
use Rattle.omf_layout.specs.Layout.{Laid}
use Rattle.omf_layout.specs.Wants.{raised, raised_by, alignment_by}
use Rattle.omf_layout.specs.Several.Laying.{Lying, laid, arranged, runs_laid}
use Rattle.omf_layout.specs.Several.Order.{nameless_last, runs, runs_in}
use Rattle.omf_layout.specs.Several.Placing.{place_in, segments_in, all_segments_in, at_frame, low_of, lows_in, lows, frame_named, group_frames, with_frames, all_with_frames, arranged_places}
use Rattle.omf_layout.specs.Several.Portions.{Named, Classed, classed, portions_in, portions, combination_named}
use Rattle.omf_keys.specs.Keys.{bare_group, AreAlike}
use Rattle.omf_keys.proofs.KeptLaws.{IsKeptTable, same-records, group-map, group-filter}
use Rattle.omf_keys.proofs.ListLaws.{map-ext, filter-ext, zip-map, zip-flat, enum-map, enum-flat, Beside, by-value, zip-beside}
use Rattle.omf_keys.proofs.TableLaws.{same-tables}

-- ---- segments

raised-kept : IsKeptTable (λ kind c. raised_by c)
raised-kept = record {
  bare = λ kind c. raised-bare c;
  fixups = λ kind subs. refl;
  end = λ kind byte start. refl;
}
  where
    raised-bare : (c : Contents) → raised_by c ≡ raised_by (contents_alone c)
    raised-bare (Comment byte class text) = refl
    raised-bare _ = refl

pub same-raised : (m n : List Rec) → AreAlike m n → raised m ≡ raised n
same-raised m n h = same-records (λ kind c. raised_by c) raised-kept m n h

abbrev named_in : List (List ℕ) → ℕ → List ℕ
named_in ns i = unwrap_or (entry ns i) []

-- The portions of a module by its tables.
abbrev classed_by : List (List ℕ) → List ℕ → ℕ → ℕ × (SegInfo × ℕ) → Classed Portion
classed_by ns rs j x = (
  named_in ns x.1.0.class,
  (
    named_in ns x.1.0.name,
    record { «module» = j; index = x.0; segment = x.1.0; alignment = alignment_by (is_one_of rs x.0) x.1.1; combination = combination_named x.1.1 },
  ),
)

abbrev portions_by : ℕ → List (List ℕ) → List ℕ → List SegInfo → List ℕ → List (Classed Portion)
portions_by j ns rs ss ks = map (classed_by ns rs j) (enumerate_from 1 (zip ss ks))

portions-by : (j : ℕ) (m : List Rec) → portions_in (j, m) ≡ portions_by j (names m) (raised m) (segments m) (attributes m)
portions-by j m = map-ext (classed m j) (classed_by (names m) (raised m) j) (λ x. refl) (enumerate_from 1 (zip (segments m) (attributes m)))

portions-same : (j : ℕ) (m n : List Rec) → AreAlike m n → portions_in (j, m) ≡ portions_in (j, n)
portions-same j m n h =
    let s = same-tables m n h in
    portions-by j m
    ∙ ap₂ (λ (ns : List (List ℕ)) (rs : List ℕ). portions_by j ns rs (segments m) (attributes m)) s.names (same-raised m n h)
    ∙ ap₂ (λ (ss : List SegInfo) (ks : List ℕ). portions_by j (names n) (raised n) ss ks) s.segments s.attributes
    ∙ sym (portions-by j n)

-- ---- groups

pub members-bare : (xs : List Placed) (ms : List (At (At ℕ))) → members_placed xs ms ≡ members_placed xs (map (λ m. nowhere (unplaced m.item)) ms)
members-bare xs [] = refl
members-bare xs (m ∷ ms) = ap (λ (o : Option (List Placed)). option_and_then (λ p. option_map (λ ps. p ∷ ps) o) (entry xs m.item.item)) (members-bare xs ms)

abbrev low_by : List (List ℕ) → List Placed → GroupItem → Option (Named Placed)
low_by ns xs g = option_map (λ p. (named_in ns g.name.item, p)) (option_and_then lowest (members_placed xs g.members))

low-bare : (ns : List (List ℕ)) (xs : List Placed) (g : GroupItem) → low_by ns xs g ≡ low_by ns xs (bare_group g)
low-bare ns xs g = ap (λ (o : Option (List Placed)). option_map (λ p. (named_in ns g.name.item, p)) (option_and_then lowest o)) (members-bare xs g.members)

lows-same : (m n : List Rec) (xs : List Placed) → AreAlike m n → lows_in (m, xs) ≡ lows_in (n, xs)
lows-same m n xs h =
    filter-ext (low_of m (map at_frame xs)) (low_by (names m) (map at_frame xs)) (λ g. refl) (groups m)
    ∙ ap (λ (ns : List (List ℕ)). filter_map (low_by ns (map at_frame xs)) (groups m)) (same-tables m n h).names
    ∙ group-filter m n h (low_by (names n) (map at_frame xs)) (low-bare (names n) (map at_frame xs))
    ∙ filter-ext (low_by (names n) (map at_frame xs)) (low_of n (map at_frame xs)) (λ g. refl) (groups n)

abbrev frame_of : Frames → List (Named Placed) → List (List ℕ) → GroupItem → Frame
frame_of frames ls ns g = frame_named frames ls (named_in ns g.name.item)

frames-same : (frames : Frames) (ls : List (Named Placed)) (m n : List Rec) → AreAlike m n → group_frames frames ls m ≡ group_frames frames ls n
frames-same frames ls m n h =
    map-ext (λ (g : GroupItem). frame_of frames ls (names m) g) (λ (g : GroupItem). frame_of frames ls (names n) g) (λ g. ap (λ (ns : List (List ℕ)). frame_of frames ls ns g) (same-tables m n h).names) (groups m)
    ∙ group-map m n h (frame_of frames ls (names n)) (λ g. refl)

-- ---- modules

module _ (ms ns : List (List Rec)) (all : AllZip AreAlike ms ns) where
  pub all-portions : portions ms ≡ portions ns
  all-portions = enum-flat AreAlike portions_in portions_in portions-same 0 ms ns all

  pub all-runs : runs ms ≡ runs ns
  all-runs = ap (λ (ps : List (Classed Portion)). runs_in (nameless_last ps)) all-portions

  arranged-same : (o : Options) → arranged o ms ≡ arranged o ns
  arranged-same o = ap (runs_laid o.frames o.base) all-runs

  segments-same : (ls : List Lying) → all_segments_in ls ms ≡ all_segments_in ls ns
  segments-same ls = enum-map AreAlike (segments_in ls) (segments_in ls)
      (λ j m n h. ap (λ (ss : List SegInfo). filter_map (place_in ls j) (range_with_len 1 (length ss))) (same-tables m n h).segments) 0 ms ns all

  module _ (xs : List (List Placed)) where
    beside : AllZip (Beside AreAlike {Z = List Placed}) (zip ms xs) (zip ns xs)
    beside = zip-beside AreAlike ms ns xs all

    all-lows : lows ms xs ≡ lows ns xs
    all-lows = zip-flat (Beside AreAlike) lows_in lows_in (by-value AreAlike lows_in lows_in lows-same) (zip ms xs) (zip ns xs) beside

    abbrev framed_with : List Placed → List Frame → Places
    framed_with ps fs = record { segments = ps; groups = fs; externals = [] }

    with-same : (frames : Frames) (ls : List (Named Placed)) → map (with_frames frames ls) (zip ms xs) ≡ map (with_frames frames ls) (zip ns xs)
    with-same frames ls = zip-map (Beside AreAlike) (with_frames frames ls) (with_frames frames ls)
        (by-value AreAlike (with_frames frames ls) (with_frames frames ls) (λ m n ps h. ap (framed_with ps) (frames-same frames ls m n h))) (zip ms xs) (zip ns xs) beside

    all-with : (frames : Frames) → all_with_frames frames ms xs ≡ all_with_frames frames ns xs
    all-with frames = with-same frames (lows ms xs) ∙ ap (λ (ls : List (Named Placed)). map (with_frames frames ls) (zip ns xs)) all-lows

  places-laid : (o : Options) (l : Laid (List Lying)) → all_with_frames o.frames ms (all_segments_in l.what ms) ≡ all_with_frames o.frames ns (all_segments_in l.what ns)
  places-laid o l = all-with (all_segments_in l.what ms) o.frames ∙ ap (all_with_frames o.frames ns) (segments-same l.what)

  pub arranged-places : (o : Options) → arranged_places o ms ≡ arranged_places o ns
  arranged-places o = by (arranged o ms) ∙ ap (option_map (λ l. laid (all_with_frames o.frames ns (all_segments_in l.what ns)) l.free)) (arranged-same o)
    where
      by : (x : Option (Laid (List Lying))) → option_map (λ l. laid (all_with_frames o.frames ms (all_segments_in l.what ms)) l.free) x ≡ option_map (λ l. laid (all_with_frames o.frames ns (all_segments_in l.what ns)) l.free) x
      by None = refl
      by (Some l) = ap (λ (pls : List Places). Some (laid pls l.free)) (places-laid o l)
