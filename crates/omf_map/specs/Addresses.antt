-- The addresses that a map shows: of the segments, the publics and the externals of modules (this profile's rule).
use Rattle.std.specs.Prelude.{ℕ, ◌+◌, ◌-◌, ◌*◌, List, [], ◌∷◌, map, flat_map, filter_map, set, zip, Bool, true, false, Option, Some, None, is_none, is_some, option_and_then, option_map, bytes_eq, ◌==◌, ◌&&◌, if◌then◌else◌}
use Rattle.std.specs.List.{enumerate_from}
use Rattle.omf_check.specs.Tables.{entry}
use Rattle.omf_frame.specs.Types.{is_local}
use Rattle.omf_linking.specs.Locator.Sparse.{Sparse}
use Rattle.omf_placement.specs.Derive.{named_externals}
use Rattle.omf_placement.specs.Placement.{Places}
use Rattle.omf_placement.specs.Weak.{weak_pairs}
use Rattle.omf_placement.specs.declared.several.pairs.WeakPair.{WeakPair}
use Rattle.omf_placement.specs.declared.frame.Placed.{Placed}
use Rattle.omf_records.specs.Values.{At, Contents, PublicItem, Publics, Rec}

-- ---- of a module

-- The address of each segment and of each external of a module, in index order; none where there is none. For segments that are stored elsewhere, also where.
pub record Addresses : Type 0 where
  pub segments : List (Option ℕ)
  pub stored : List (Option ℕ)
  pub externals : List (Option ℕ)

abbrev pub AddressedModule : Type 0
AddressedModule = List Rec × Addresses

-- The address of the entry of an index, if there is one.
abbrev pub own : Option ℕ → Option ℕ
own address = address

abbrev pub address_at : List (Option ℕ) → ℕ → Option ℕ
address_at addresses i = option_and_then own (entry addresses i)

-- ---- of publics

-- A public: its name and its address, if it has one.
abbrev pub NamedAddress : Type 0
NamedAddress = List ℕ × Option ℕ

-- The address of a PUBDEF's segment; if that is 0, the start of its base frame (TIS OMF 1.1, "PUBDEF").
abbrev pub base_at : List (Option ℕ) → ℕ → Option ℕ → Option ℕ
base_at segments segment frame = if segment == 0 then option_map (λ number. 16 * number) frame else address_at segments segment

-- The publics of a PUBDEF, each at its offset from the base.
abbrev pub public_at : Option ℕ → At PublicItem → NamedAddress
public_at base q = (q.item.name, option_map (λ b. b + q.item.offset) base)

abbrev pub publics_at : Option ℕ → List (At PublicItem) → List NamedAddress
publics_at base items = map (public_at base) items

abbrev pub publics_in : List (Option ℕ) → Contents → List NamedAddress
publics_in segments (Publics p) = publics_at (base_at segments p.segment.item p.frame) p.items
publics_in segments _ = []

-- The local ones, which an LPUBDEF defines, or the others, which a PUBDEF does.
abbrev pub publics_asked : Bool → List (Option ℕ) → ℕ → Contents → List NamedAddress
publics_asked true segments kind c = if is_local kind then publics_in segments c else []
publics_asked false segments kind c = if is_local kind then [] else publics_in segments c

-- Those of a module, by the addresses of its segments.
abbrev pub publics_of : Bool → List Rec × List (Option ℕ) → List NamedAddress
publics_of local m = flat_map (λ r. publics_asked local m.1 r.kind r.contents) m.0

-- ---- of modules at their placements

abbrev pub place_address : Placed → Option ℕ
place_address p = Some p.address

abbrev pub addresses_of : Places → Addresses
addresses_of pl = record { segments = map place_address pl.segments; stored = []; externals = map place_address pl.externals }

abbrev pub addressed : List (List Rec) → List Places → List AddressedModule
addressed ms pls = zip ms (map addresses_of pls)

-- ---- of modules by a text, which need not give each entry a place

-- The segments: an address for each that the text gives a place.
abbrev pub given_address : Option Placed → Option ℕ
given_address p = option_map (λ q. q.address) p

abbrev pub segments_given : Sparse → List (Option ℕ)
segments_given s = map given_address s.segments

-- The publics of all modules that are not local.
abbrev pub publics_given : List Rec × Sparse → List NamedAddress
publics_given m = publics_of false (m.0, segments_given m.1)

abbrev pub all_given : List (List Rec) → List Sparse → List NamedAddress
all_given ms ss = flat_map publics_given (zip ms ss)

-- The addresses of the publics of a name. If it is one public, it gives the name its address.
abbrev pub of_name : List ℕ → NamedAddress → Option (Option ℕ)
of_name name p = if bytes_eq name p.0 then Some p.1 else None

abbrev pub the_one : List (Option ℕ) → Option ℕ
the_one [] = None
the_one (a ∷ []) = a
the_one (a ∷ b ∷ more) = None

abbrev pub named_address : List NamedAddress → List ℕ → Option ℕ
named_address publics name = the_one (filter_map (of_name name) publics)

-- An external has the address that the text gives it, or else that of the one public of its name. A local external sees the local publics of its module, any other
-- those of all modules that are not local.
abbrev pub seen_given : List NamedAddress → List Rec × Sparse → Bool → List NamedAddress
seen_given all m local = if local then publics_of true (m.0, segments_given m.1) else all

abbrev pub place_or : Option Placed → Option ℕ → Option ℕ
place_or None address = address
place_or (Some p) address = Some p.address

abbrev pub some_place : Option Placed → Option Placed
some_place p = p

abbrev pub external_given : (Bool → List NamedAddress) → Sparse → ℕ × (List ℕ × Bool) → Option ℕ
external_given among s e = place_or (option_and_then some_place (entry s.externals e.0)) (named_address (among e.1.1) e.1.0)

abbrev pub externals_given : (Bool → List NamedAddress) → List Rec × Sparse → List (Option ℕ)
externals_given among m = map (external_given among m.1) (enumerate_from 1 (named_externals m.0))

-- A weak external that the text gives no place, and whose name no public that it sees has, has the address of its default: of several pairs of one external that of
-- the first whose default has one (TIS OMF 1.1, "COMENT", class A8H).
abbrev pub is_unnamed : List (Option ℕ) → Bool
is_unnamed [] = true
is_unnamed (a ∷ more) = false

abbrev pub is_missing : (Bool → List NamedAddress) → Sparse → ℕ → Option (List ℕ × Bool) → Bool
is_missing among s i None = false
is_missing among s i (Some e) = is_none (option_and_then some_place (entry s.externals i)) && is_unnamed (filter_map (of_name e.0) (among e.1))

abbrev pub or_default : List (Option ℕ) → List (Option ℕ) → WeakPair → List (Option ℕ)
or_default first xs p = if is_some (address_at xs p.weak) then xs else set xs (p.weak - 1) (address_at first p.substitute)

abbrev pub for_missing : (Bool → List NamedAddress) → List Rec × Sparse → List (Option ℕ) → List (Option ℕ) → WeakPair → List (Option ℕ)
for_missing among m first xs p = if is_missing among m.1 p.weak (entry (named_externals m.0) p.weak) then or_default first xs p else xs

abbrev pub with_defaults : (Bool → List NamedAddress) → List Rec × Sparse → List (Option ℕ) → List WeakPair → List (Option ℕ) → List (Option ℕ)
with_defaults among m first [] xs = xs
with_defaults among m first (p ∷ ps) xs = with_defaults among m first ps (for_missing among m first xs p)

abbrev pub externals_settled : (Bool → List NamedAddress) → List Rec × Sparse → List (Option ℕ)
externals_settled among m = with_defaults among m (externals_given among m) (weak_pairs m.0) (externals_given among m)

abbrev pub addresses_given : List NamedAddress → List Rec × Sparse → Addresses
addresses_given all m = record { segments = segments_given m.1; stored = m.1.stored; externals = externals_settled (seen_given all m) m }

abbrev pub addressed_by : List (List Rec) → List Sparse → List AddressedModule
addressed_by ms ss = zip ms (map (addresses_given (all_given ms ss)) (zip ms ss))
