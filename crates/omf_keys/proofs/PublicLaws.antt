-- Externals are derived from the same publics.
use Rattle.std.proofs.Common.{◌≡◌, ℕ, ◌+◌, List, [], ◌++◌, refl, sym, ◌∙◌, ap, ap₂, Bool, true, false, cond}
use Rattle.std.specs.Prelude.{map, flat_map, filter_map, zip, Option, Some, None, option_to_list, Result}
use Rattle.std.specs.List.{AllZip, enumerate_from}
use Rattle.std.proofs.lemmas.Simd.{map-map}
use Rattle.omf_frame.specs.Types.{is_local}
use Rattle.omf_records.specs.Values.{At, Rec, Contents, Publics, PublicItem, contents_alone, unplaced}
use Rattle.omf_placement.specs.declared.frame.Placed.{Placed}
use Rattle.omf_placement.specs.declared.several.fault.DeriveFault.{DeriveFault}
use Rattle.omf_placement.specs.declared.several.given.Given.{Given}
use Rattle.omf_placement.specs.declared.several.pairs.WeakPair.{WeakPair}
use Rattle.omf_placement.specs.Derive.{PlacedModule, PlacedPublic, base_of, publics_at, public_at, placed_publics, record_publics, publics, all_publics, seen_publics, named_externals}
use Rattle.omf_placement.specs.Inner.Derived.{external_place, external_places, err_of, ok_of, derive_faults, with_externals, unless_fault, derived}
use Rattle.omf_placement.specs.Placement.{Places}
use Rattle.omf_placement.specs.Weak.{pair_given, weak_in, weak_given, with_weak}
use Rattle.omf_keys.specs.Keys.{AreAlike}
use Rattle.omf_keys.proofs.KeptLaws.{IsKeptTable, same-records, either}
use Rattle.omf_keys.proofs.ListLaws.{map-ext, zip-flat, enum-map, enum-flat, Beside, by-value}
use Rattle.omf_keys.proofs.TableLaws.{same-tables}

-- ---- publics

items-bare : (base : Placed) (items : List (At PublicItem)) → publics_at base items ≡ publics_at base (map unplaced items)
items-bare base items = sym (map-map (λ (q : At PublicItem). public_at q.item.name (base.address + q.item.offset) base.frame) unplaced items)

based : (o : Option Placed) (items : List (At PublicItem)) → flat_map (λ base. publics_at base items) (option_to_list o) ≡ flat_map (λ base. publics_at base (map unplaced items)) (option_to_list o)
based None items = refl
based (Some base) items = ap (λ (ps : List PlacedPublic). ps ++ []) (items-bare base items)

placed-bare : (pl : Places) (c : Contents) → placed_publics pl c ≡ placed_publics pl (contents_alone c)
placed-bare pl (Publics p) = based (base_of pl p.group.item p.segment.item p.frame) p.items
placed-bare pl _ = refl

publics-kept : (local : Bool) (pl : Places) → IsKeptTable (record_publics local pl)
publics-kept true pl = record {
  bare = λ kind c. ap (λ (ps : List PlacedPublic). cond (is_local kind) ps []) (placed-bare pl c);
  fixups = λ kind subs. either (is_local kind) [];
  end = λ kind byte start. either (is_local kind) [];
}
publics-kept false pl = record {
  bare = λ kind c. ap (λ (ps : List PlacedPublic). cond (is_local kind) [] ps) (placed-bare pl c);
  fixups = λ kind subs. either (is_local kind) [];
  end = λ kind byte start. either (is_local kind) [];
}

-- Modules at one placement.
abbrev pub AreBeside : PlacedModule → PlacedModule → Type 0
AreBeside a b = Beside AreAlike a b

pub publics-same : (local : Bool) (a b : PlacedModule) → AreBeside a b → publics local a ≡ publics local b
publics-same local = by-value AreAlike (publics local) (publics local) (λ m n pl h. same-records (record_publics local pl) (publics-kept local pl) m n h)

pub named-same : (m n : List Rec) → AreAlike m n → named_externals m ≡ named_externals n
named-same m n h = let s = same-tables m n h in ap₂ zip s.externals s.locals

module _ (ms ns : List PlacedModule) (all : AllZip AreBeside ms ns) where
  pub all-publics : all_publics ms ≡ all_publics ns
  all-publics = zip-flat AreBeside (publics false) (publics false) (publics-same false) ms ns all

  pub seen-same : (a b : PlacedModule) → AreBeside a b → (local : Bool) → seen_publics ms a local ≡ seen_publics ns b local
  seen-same a b h true = publics-same true a b h
  seen-same a b h false = all-publics

  module _ (given : List Given) where
    places-same : (j : ℕ) (a b : PlacedModule) → AreBeside a b → external_places (seen_publics ms a) given j a.0 ≡ external_places (seen_publics ns b) given j b.0
    places-same j a b h =
        map-ext (λ (e : ℕ × (List ℕ × Bool)). external_place (seen_publics ms a e.1.1) given j e.0 e.1.0) (λ e. external_place (seen_publics ns b e.1.1) given j e.0 e.1.0)
        (λ e. ap (λ among. external_place among given j e.0 e.1.0) (seen-same a b h e.1.1)) (enumerate_from 1 (named_externals a.0))
        ∙ ap (λ xs. map (λ (e : ℕ × (List ℕ × Bool)). external_place (seen_publics ns b e.1.1) given j e.0 e.1.0) (enumerate_from 1 xs)) (named-same a.0 b.0 h.0)

    faults-same : derive_faults ms given ≡ derive_faults ns given
    faults-same = enum-flat AreBeside (λ (m : ℕ × PlacedModule). filter_map err_of (external_places (seen_publics ms m.1) given m.0 m.1.0)) (λ m. filter_map err_of (external_places (seen_publics ns m.1) given m.0 m.1.0))
        (λ j a b h. ap (filter_map err_of) (places-same j a b h)) 0 ms ns all

    abbrev with_places : Places → List Placed → Places
    with_places pl xs = record pl { externals = xs }

    placed-same : map (with_externals ms given) (enumerate_from 0 ms) ≡ map (with_externals ns given) (enumerate_from 0 ns)
    placed-same = enum-map AreBeside (with_externals ms given) (with_externals ns given)
        (λ j a b h. ap₂ with_places h.1 (ap (filter_map ok_of) (places-same j a b h))) 0 ms ns all

    pub derived-same : derived ms given ≡ derived ns given
    derived-same = ap₂ (λ (es : List DeriveFault) (pls : List Places). unless_fault es pls) faults-same placed-same

    weak-same : weak_given ms given ≡ weak_given ns given
    weak-same = enum-flat AreBeside (weak_in ms given) (weak_in ns given)
        (λ j a b h. ap₂ (λ (rs : List (Result Placed DeriveFault)) (ps : List WeakPair). filter_map (pair_given j rs) ps) (places-same j a b h) (same-tables a.0 b.0 h.0).weak) 0 ms ns all

    pub weak-added : with_weak ms given ≡ with_weak ns given
    weak-added = ap (λ (gs : List Given). given ++ gs) weak-same
