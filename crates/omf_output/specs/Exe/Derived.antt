-- What moves of modules that are laid out together and whose externals are derived (this profile's rule).
use Rattle.std.specs.Prelude.{◌≡◌, ℕ, List, [], ◌∷◌, map, flat_map, filter_map, zip, Bool, true, false, Option, Some, None, option_and_then, option_map, slice_get, unwrap_or, bytes_eq, ◌==◌, ◌++◌, if◌then◌else◌}
use Rattle.std.specs.List.{enumerate_from}
use Rattle.std.specs.BTreeMap.{BTreeMap, get_by}
use denote.Ref.{Bor}
use Rattle.omf_names.specs.Names.{name_cmp}
use Rattle.omf_frame.specs.Types.{is_local}
use Rattle.omf_records.specs.Values.{Contents, GroupItem, Publics, Rec}
use Rattle.omf_check.specs.Tables.{entry, groups, names}
use Rattle.omf_placement.specs.declared.frame.Placed.{Placed}
use Rattle.omf_placement.specs.declared.several.pairs.WeakPair.{WeakPair}
use Rattle.omf_placement.specs.Derive.{PlacedModule, named_externals}
use Rattle.omf_placement.specs.Placement.{lowest, members_placed}
use Rattle.omf_placement.specs.Weak.{weak_pairs}
use Rattle.omf_output.specs.declared.exe.movers.Moving.{Moving}
use Rattle.omf_output.specs.Exe.Based.{segments_moving}
use Rattle.omf_output.specs.Exe.Moved.{Movers, both, moves}

-- ---- groups: the groups of one name, over all modules, are one, and move exactly if the member with the lowest frame does

-- The place at the start of a segment's frame, with a mark: the selector is 1 if the segment moves, and 0 if not.
abbrev pub marked : Bool × Placed → Placed
marked x = record { address = x.1.frame.base; frame = record { base = 0; selector = if x.0 then 1 else 0 } }

abbrev pub marks : PlacedModule → List Placed
marks m = map marked (zip (segments_moving m.0) m.1.segments)

-- The name of an index; the empty name for index 0.
abbrev pub name_at : List Rec → ℕ → List ℕ
name_at m i = unwrap_or (entry (names m) i) []

abbrev pub Named : Type 0
Named = List ℕ × Placed

-- The marked place of the member of a group that has the lowest frame, with the group's name; none for a group without members.
abbrev pub low_of : List Rec → List Placed → GroupItem → Option Named
low_of m xs g = option_map (λ p. (name_at m g.name.item, p)) (option_and_then lowest (members_placed xs g.members))

abbrev pub lows_in : PlacedModule → List Named
lows_in m = filter_map (low_of m.0 (marks m)) (groups m.0)

abbrev pub lows : List PlacedModule → List Named
lows ms = flat_map lows_in ms

abbrev pub value_of : List ℕ → Named → Option Placed
value_of name x = if bytes_eq name x.0 then Some x.1 else None

abbrev pub of_name : List Named → List ℕ → List Placed
of_name ls name = filter_map (value_of name) ls

-- Whether the groups of a name move: the mark of the member of any of them that has the lowest frame. Those without members do not.
abbrev pub is_marked : Option Placed → Bool
is_marked None = false
is_marked (Some p) = p.frame.selector == 1

abbrev pub name_moves : List Named → List ℕ → Bool
name_moves ls name = is_marked (lowest (of_name ls name))

abbrev pub names_moving : List Named → List Rec → List Bool
names_moving ls m = map (λ g. name_moves ls (name_at m g.name.item)) (groups m)

-- A table of lowest marked places by name; one with these places in addition to those of another.
abbrev pub IsLowTable : BTreeMap (Bor (List ℕ)) Placed → List Named → Type 0
IsLowTable m ls = (name : List ℕ) → get_by (λ k. name_cmp name k.now) m ≡ lowest (of_name ls name)

abbrev pub HasMore : BTreeMap (Bor (List ℕ)) Placed → BTreeMap (Bor (List ℕ)) Placed → List Named → Type 0
HasMore m n more = (ls : List Named) → IsLowTable m ls → IsLowTable n (ls ++ more)

-- ---- externals: an external moves as the base of the only public that it refers to

-- A module, and what moves of its segments and groups.
abbrev pub BasedModule : Type 0
BasedModule = List Rec × Movers

abbrev pub bases_in : List Named → List Rec → Movers
bases_in ls m = record { segments = segments_moving m; groups = names_moving ls m; externals = [] }

abbrev pub with_bases : List Named → List (List Rec) → List BasedModule
with_bases ls ms = map (λ m. (m, bases_in ls m)) ms

-- A public: its name, and how it moves.
pub record MovingPublic : Type 0 where
  pub name : List ℕ
  pub moving : Moving

-- How the publics of a PUBDEF move, by the indices of its group and its segment: the address as the segment; the frame as the group, or without one as the
-- segment. Without a segment the address is over a base frame, and stays (TIS OMF 1.1, "PUBDEF").
abbrev pub base_moving : Movers → ℕ → ℕ → Moving
base_moving mv group segment = record { address = moves mv.segments segment; frame = if group == 0 then moves mv.segments segment else moves mv.groups group }

abbrev pub public_moving : List ℕ → Moving → MovingPublic
public_moving name moving = record { name = name; moving = moving }

abbrev pub moving_publics : Movers → Contents → List MovingPublic
moving_publics mv (Publics p) = map (λ q. public_moving q.item.name (base_moving mv p.group.item p.segment.item)) p.items
moving_publics mv _ = []

-- The local publics of a record, or its other publics; those of a module; and those that an external of a module can refer to, which are those that
-- `seen_publics` has with their places.
abbrev pub moving_in_record : Bool → Movers → ℕ → Contents → List MovingPublic
moving_in_record true mv kind c = if is_local kind then moving_publics mv c else []
moving_in_record false mv kind c = if is_local kind then [] else moving_publics mv c

abbrev pub moving_in_module : Bool → BasedModule → List MovingPublic
moving_in_module local m = flat_map (λ r. moving_in_record local m.1 r.kind r.contents) m.0

abbrev pub seen_moving : List BasedModule → BasedModule → Bool → List MovingPublic
seen_moving ms m local = if local then moving_in_module true m else flat_map (moving_in_module false) ms

-- How the publics move that each external of a module refers to: all those of its name.
abbrev pub moving_of_name : List ℕ → MovingPublic → Option Moving
moving_of_name name p = if bytes_eq name p.name then Some p.moving else None

abbrev pub referred : List BasedModule → BasedModule → List (List Moving)
referred ms m = map (λ e. filter_map (moving_of_name e.0) (seen_moving ms m e.1)) (named_externals m.0)

-- The only one.
abbrev pub only : List Moving → Option Moving
only [] = None
only (b ∷ []) = Some b
only (b ∷ c ∷ bs) = None

-- How the default of external i moves: that of the first pair for i whose default refers to a single public.
abbrev pub default_in : (ℕ → Option Moving) → ℕ → WeakPair → Option Moving
default_in single i p = if p.weak == i then single p.substitute else None

abbrev pub default_moving : (ℕ → Option Moving) → List WeakPair → ℕ → Option Moving
default_moving single pairs i = slice_get (filter_map (default_in single i) pairs) 0

abbrev pub single_of : List (List Moving) → ℕ → Option Moving
single_of refs i = option_and_then only (entry refs i)

-- How an external moves: as the only public that it refers to; one that refers to none, as its default. Any other has no place, and does not move.
abbrev pub external_moving : Option Moving → List Moving → Moving
external_moving default [] = unwrap_or default (both false)
external_moving default (b ∷ []) = b
external_moving default (b ∷ c ∷ bs) = both false

abbrev pub externals_moving : List (List Moving) → List WeakPair → List Moving
externals_moving refs pairs = map (λ x. external_moving (default_moving (single_of refs) pairs x.0) x.1) (enumerate_from 1 refs)

-- ---- all that moves

abbrev pub movers_in : List BasedModule → BasedModule → Movers
movers_in ms m = record m.1 { externals = externals_moving (referred ms m) (weak_pairs m.0) }

abbrev pub all_movers : List BasedModule → List Movers
all_movers ms = map (movers_in ms) ms

-- What moves of modules at their places, of which the segments count.
abbrev pub AreMovers : List (List Rec) → List PlacedModule → List Movers → Type 0
AreMovers ms placed movers = movers ≡ all_movers (with_bases (lows placed) ms)
