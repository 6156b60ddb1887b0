-- The same of modules moves.
use Rattle.std.proofs.Common.{◌≡◌, ℕ, List, [], ◌∷◌, refl, sym, ◌∙◌, ap, ap₂, Bool, true, false, cond}
use Rattle.std.specs.Prelude.{map, filter_map, zip, Option, option_map, option_and_then, unwrap_or}
use Rattle.std.specs.List.{AllZip}
use Rattle.std.proofs.lemmas.Simd.{map-map}
use Rattle.omf_frame.specs.Types.{is_local}
use Rattle.omf_records.specs.Values.{At, Rec, Contents, Publics, PublicItem, GroupItem, contents_alone, unplaced}
use Rattle.omf_check.specs.Tables.{names, groups, entry}
use Rattle.omf_check.specs.declared.segment.SegInfo.{SegInfo}
use Rattle.omf_placement.specs.declared.frame.Placed.{Placed}
use Rattle.omf_placement.specs.declared.several.pairs.WeakPair.{WeakPair}
use Rattle.omf_placement.specs.Derive.{PlacedModule, named_externals}
use Rattle.omf_placement.specs.Placement.{Places, lowest, members_placed}
use Rattle.omf_output.specs.declared.exe.movers.Moving.{Moving}
use Rattle.omf_output.specs.Exe.Based.{is_movable, segments_moving}
use Rattle.omf_output.specs.Exe.Derived.{Named, BasedModule, MovingPublic, marked, marks, low_of, lows_in, lows, name_moves, names_moving, bases_in, with_bases, base_moving, public_moving, moving_publics, moving_in_record, moving_in_module, seen_moving, moving_of_name, referred, externals_moving, movers_in, all_movers, AreMovers}
use Rattle.omf_output.specs.Exe.Moved.{Movers}
use Rattle.omf_keys.specs.Keys.{bare_group, AreAlike}
use Rattle.omf_keys.proofs.KeptLaws.{IsKeptTable, same-records, either, group-map, group-filter}
use Rattle.omf_keys.proofs.LayoutLaws.{members-bare}
use Rattle.omf_keys.proofs.ListLaws.{map-ext, filter-ext, zip-map, zip-flat, Beside, by-value}
use Rattle.omf_keys.proofs.PublicLaws.{AreBeside, named-same}
use Rattle.omf_keys.proofs.TableLaws.{same-tables}

pub same-moving : (m n : List Rec) → AreAlike m n → segments_moving m ≡ segments_moving n
same-moving m n h = ap (map (λ (s : SegInfo). is_movable s.absolute)) (same-tables m n h).segments

-- ---- groups

abbrev named_in : List (List ℕ) → ℕ → List ℕ
named_in ns i = unwrap_or (entry ns i) []

abbrev low_by : List (List ℕ) → List Placed → GroupItem → Option Named
low_by ns xs g = option_map (λ p. (named_in ns g.name.item, p)) (option_and_then lowest (members_placed xs g.members))

low-bare : (ns : List (List ℕ)) (xs : List Placed) (g : GroupItem) → low_by ns xs g ≡ low_by ns xs (bare_group g)
low-bare ns xs g = ap (λ (o : Option (List Placed)). option_map (λ p. (named_in ns g.name.item, p)) (option_and_then lowest o)) (members-bare xs g.members)

marks-same : (m n : List Rec) (pl : Places) → AreAlike m n → marks (m, pl) ≡ marks (n, pl)
marks-same m n pl h = ap (λ (bs : List Bool). map marked (zip bs pl.segments)) (same-moving m n h)

lows-same : (m n : List Rec) (pl : Places) → AreAlike m n → lows_in (m, pl) ≡ lows_in (n, pl)
lows-same m n pl h =
    filter-ext (low_of m (marks (m, pl))) (low_by (names m) (marks (m, pl))) (λ g. refl) (groups m)
    ∙ ap₂ (λ (ns : List (List ℕ)) (xs : List Placed). filter_map (low_by ns xs) (groups m)) (same-tables m n h).names (marks-same m n pl h)
    ∙ group-filter m n h (low_by (names n) (marks (n, pl))) (low-bare (names n) (marks (n, pl)))
    ∙ filter-ext (low_by (names n) (marks (n, pl))) (low_of n (marks (n, pl))) (λ g. refl) (groups n)

all-lows : (ms ns : List PlacedModule) → AllZip AreBeside ms ns → lows ms ≡ lows ns
all-lows ms ns all = zip-flat AreBeside lows_in lows_in (by-value AreAlike lows_in lows_in lows-same) ms ns all

names-moving : (ls : List Named) (m n : List Rec) → AreAlike m n → names_moving ls m ≡ names_moving ls n
names-moving ls m n h =
    map-ext (λ (g : GroupItem). name_moves ls (named_in (names m) g.name.item)) (λ (g : GroupItem). name_moves ls (named_in (names n) g.name.item))
    (λ g. ap (λ (ns : List (List ℕ)). name_moves ls (named_in ns g.name.item)) (same-tables m n h).names) (groups m)
    ∙ group-map m n h (λ (g : GroupItem). name_moves ls (named_in (names n) g.name.item)) (λ g. refl)

abbrev with_flags : List Bool → List Bool → Movers
with_flags ss gs = record { segments = ss; groups = gs; externals = [] }

bases-same : (ls : List Named) (m n : List Rec) → AreAlike m n → bases_in ls m ≡ bases_in ls n
bases-same ls m n h = ap₂ with_flags (same-moving m n h) (names-moving ls m n h)

abbrev AreBased : BasedModule → BasedModule → Type 0
AreBased a b = Beside AreAlike a b

based-same : (ls : List Named) (ms ns : List (List Rec)) → AllZip AreAlike ms ns → AllZip AreBased (with_bases ls ms) (with_bases ls ns)
based-same ls [] [] h = tt
based-same ls [] (n ∷ ns) h = absurd h
based-same ls (m ∷ ms) [] h = absurd h
based-same ls (m ∷ ms) (n ∷ ns) h = ((h.0, bases-same ls m n h.0), based-same ls ms ns h.1)

-- ---- externals

moving-bare : (mv : Movers) (c : Contents) → moving_publics mv c ≡ moving_publics mv (contents_alone c)
moving-bare mv (Publics p) = sym (map-map (λ (q : At PublicItem). public_moving q.item.name (base_moving mv p.group.item p.segment.item)) unplaced p.items)
moving-bare mv _ = refl

moving-kept : (local : Bool) (mv : Movers) → IsKeptTable (moving_in_record local mv)
moving-kept true mv = record {
  bare = λ kind c. ap (λ (ps : List MovingPublic). cond (is_local kind) ps []) (moving-bare mv c);
  fixups = λ kind subs. either (is_local kind) [];
  end = λ kind byte start. either (is_local kind) [];
}
moving-kept false mv = record {
  bare = λ kind c. ap (λ (ps : List MovingPublic). cond (is_local kind) [] ps) (moving-bare mv c);
  fixups = λ kind subs. either (is_local kind) [];
  end = λ kind byte start. either (is_local kind) [];
}

moving-same : (local : Bool) (a b : BasedModule) → AreBased a b → moving_in_module local a ≡ moving_in_module local b
moving-same local = by-value AreAlike (moving_in_module local) (moving_in_module local) (λ m n mv h. same-records (moving_in_record local mv) (moving-kept local mv) m n h)

module _ (ms ns : List BasedModule) (all : AllZip AreBased ms ns) where
  seen-moving : (a b : BasedModule) → AreBased a b → (local : Bool) → seen_moving ms a local ≡ seen_moving ns b local
  seen-moving a b h true = moving-same true a b h
  seen-moving a b h false = zip-flat AreBased (moving_in_module false) (moving_in_module false) (moving-same false) ms ns all

  referred-same : (a b : BasedModule) → AreBased a b → referred ms a ≡ referred ns b
  referred-same a b h =
      map-ext (λ (e : List ℕ × Bool). filter_map (moving_of_name e.0) (seen_moving ms a e.1)) (λ (e : List ℕ × Bool). filter_map (moving_of_name e.0) (seen_moving ns b e.1))
      (λ e. ap (filter_map (moving_of_name e.0)) (seen-moving a b h e.1)) (named_externals a.0)
      ∙ ap (map (λ (e : List ℕ × Bool). filter_map (moving_of_name e.0) (seen_moving ns b e.1))) (named-same a.0 b.0 h.0)

  abbrev with_moving : Movers → List Moving → Movers
  with_moving mv xs = record mv { externals = xs }

  movers-same : (a b : BasedModule) → AreBased a b → movers_in ms a ≡ movers_in ns b
  movers-same a b h = ap₂ with_moving h.1 (ap₂ (λ (rs : List (List Moving)) (ps : List WeakPair). externals_moving rs ps) (referred-same a b h) (same-tables a.0 b.0 h.0).weak)

  all-movers : all_movers ms ≡ all_movers ns
  all-movers = zip-map AreBased (movers_in ms) (movers_in ns) movers-same ms ns all

pub same-movers : (ms ns : List (List Rec)) (ks bs : List PlacedModule) → AllZip AreAlike ms ns → AllZip AreBeside ks bs → (movers : List Movers) → AreMovers ms ks movers → AreMovers ns bs movers
same-movers ms ns ks bs all placed movers is =
    is ∙ all-movers (with_bases (lows ks) ms) (with_bases (lows ks) ns) (based-same (lows ks) ms ns all)
    ∙ ap (λ (ls : List Named). all_movers (with_bases ls ns)) (all-lows ks bs placed)
