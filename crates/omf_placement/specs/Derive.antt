-- The publics of placed modules, and those that an external can refer to (TIS OMF 1.1, "PUBDEF"; which publics an external can refer to is a rule of this
-- profile).
use Rattle.std.specs.Prelude.{ℕ, ◌+◌, ◌*◌, List, [], map, flat_map, zip, Bool, true, false, Option, Some, option_map, option_and_then, option_to_list, ◌==◌, if◌then◌else◌}
use Rattle.omf_records.specs.Values.{At, Rec, Contents, Publics, PublicItem}
use Rattle.omf_frame.specs.Types.{is_local}
use Rattle.omf_check.specs.Module.{Module, typed_modules}
use Rattle.omf_check.specs.Tables.{externals, locals, entry}
use Rattle.omf_placement.specs.declared.frame.Frame.{Frame}
use Rattle.omf_placement.specs.declared.several.given.Given.{Given}
use Rattle.omf_placement.specs.declared.frame.Placed.{Placed}
use Rattle.omf_placement.specs.Placement.{Places}

-- A module and its placement, of which the segments and groups count.
abbrev pub PlacedModule : Type 0
PlacedModule = List Rec × Places

-- Modules and their placements.
abbrev pub placed_modules : List Module → List Places → List (List Rec × Places)
placed_modules ms pls = zip (typed_modules ms) pls

-- A public: its name, and its place by the placement of its module.
pub record PlacedPublic : Type 0 where
  pub name : List ℕ
  pub place : Placed

-- The place at the start of the frame with a number.
abbrev pub paragraph : ℕ → Placed
paragraph number = record { address = 16 * number; frame = record { base = 16 * number; selector = number } }

-- The place of a PUBDEF's segment; if that is 0, the start of its base frame.
abbrev pub segment_base : Places → ℕ → Option ℕ → Option Placed
segment_base pl segment number = if segment == 0 then option_map paragraph number else entry pl.segments segment

-- The base of a PUBDEF, by the indices of its group and its segment: the address is that of its segment or base frame; the frame is that of
-- its group; if that is 0, that of its segment or base frame. None if the placement has no entry for one of them.
abbrev pub in_frame : Placed → Frame → Placed
in_frame start frame = record { address = start.address; frame = frame }

abbrev pub in_group : Places → ℕ → Placed → Option Placed
in_group pl group start = if group == 0 then Some start else option_map (in_frame start) (entry pl.groups group)

abbrev pub base_of : Places → ℕ → ℕ → Option ℕ → Option Placed
base_of pl group segment number = option_and_then (in_group pl group) (segment_base pl segment number)

-- A public at an address in a frame; the publics of a PUBDEF, each at its offset from the base.
abbrev pub public_at : List ℕ → ℕ → Frame → PlacedPublic
public_at name address frame = record { name = name; place = record { address = address; frame = frame } }

abbrev pub publics_at : Placed → List (At PublicItem) → List PlacedPublic
publics_at base items = map (λ q. public_at q.item.name (base.address + q.item.offset) base.frame) items

-- The publics of a record. One without a base has none; the law bases_are_found shows that each has one.
abbrev pub placed_publics : Places → Contents → List PlacedPublic
placed_publics pl (Publics p) = flat_map (λ base. publics_at base p.items) (option_to_list (base_of pl p.group.item p.segment.item p.frame))
placed_publics pl _ = []

-- The local publics of a record, or its other publics. Those of an LPUBDEF are local, those of a PUBDEF are not.
abbrev pub record_publics : Bool → Places → ℕ → Contents → List PlacedPublic
record_publics true pl kind c = if is_local kind then placed_publics pl c else []
record_publics false pl kind c = if is_local kind then [] else placed_publics pl c

-- The local publics of a module, or its other publics. A name that occurs twice in one module counts twice.
abbrev pub publics : Bool → PlacedModule → List PlacedPublic
publics local m = flat_map (λ r. record_publics local m.1 r.kind r.contents) m.0

abbrev pub all_publics : List PlacedModule → List PlacedPublic
all_publics ms = flat_map (publics false) ms

-- The publics that an external of a module can refer to: a LEXTDEF's or an LCOMDEF's, the local publics of the module; an EXTDEF's or a
-- COMDEF's, the publics of all modules that are not local.
abbrev pub seen_publics : List PlacedModule → PlacedModule → Bool → List PlacedPublic
seen_publics ms m local = if local then publics true m else all_publics ms

-- The externals of a module: the name of each, and whether it is local.
abbrev pub named_externals : List Rec → List (List ℕ × Bool)
named_externals m = zip (externals m) (locals m)

-- The place of a given entry.
abbrev pub place_in : Given → Placed
place_in g = record { address = g.address; frame = g.frame }
