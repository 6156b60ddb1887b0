-- The symbols of modules at their placements (this profile's rule): a public of a segment is at its offset there (TIS OMF 1.1, "PUBDEF"). One of no segment,
-- at an address of its own, is at no place of the program.
use Rattle.std.specs.Prelude.{ℕ, ◌+◌, List, [], ◌∷◌, map, flat_map, Bool, Option, Some, None}
use Rattle.omf_check.specs.Tables.{entry}
use Rattle.omf_placement.specs.Derive.{PlacedModule}
use Rattle.omf_placement.specs.declared.frame.Placed.{Placed}
use Rattle.omf_records.specs.Values.{At, Contents, PublicItem, Publics}
use Rattle.omf_symbols.specs.Classes.{is_code}
use Rattle.omf_symbols.specs.Symbol.{Symbol}

-- A public at its offset from an address, in a program that a tool loads at another.
abbrev pub symbol_at : Bool → ℕ → ℕ → At PublicItem → Symbol
symbol_at is_code load address q = record { is_code = is_code; address = load + address + q.item.offset; name = q.item.name }

abbrev pub symbols_at : Bool → ℕ → ℕ → List (At PublicItem) → List Symbol
symbols_at is_code load address qs = map (symbol_at is_code load address) qs

abbrev pub symbols_from : Bool → ℕ → Option Placed → List (At PublicItem) → List Symbol
symbols_from is_code load None qs = []
symbols_from is_code load (Some p) qs = symbols_at is_code load p.address qs

-- Those of a PUBDEF or an LPUBDEF, by the place of its segment.
abbrev pub contents_symbols : ℕ → PlacedModule → Contents → List Symbol
contents_symbols load m (Publics p) = symbols_from (is_code m.0 p.segment.item) load (entry m.1.segments p.segment.item) p.items
contents_symbols load m _ = []

-- Those of modules, in the order of the records, module by module.
abbrev pub module_symbols : ℕ → PlacedModule → List Symbol
module_symbols load m = flat_map (λ r. contents_symbols load m r.contents) m.0

abbrev pub placed_symbols : ℕ → List PlacedModule → List Symbol
placed_symbols load ms = flat_map (module_symbols load) ms
