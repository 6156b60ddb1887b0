-- The map of modules at their placements (a law about keys), the contract of a function of the same name.
use Rattle.std.specs.Prelude.{◌↔◌, ℕ, List}
use Rattle.omf_check.specs.Module.{Module}
use Rattle.omf_placement.specs.Placement.{Places}
use Rattle.omf_map.specs.Far.{IsProgramMap}
use Rattle.omf_keys.specs.Keys.{HaveEqualKeys}

-- At the same placements a text is the map of modules exactly if it is that of others with equal keys.
abbrev pub ListingsByKeys : Type 0
ListingsByKeys = (ms ns : List Module) (pls : List Places) (text : List ℕ) → HaveEqualKeys ms ns → IsProgramMap ms pls text ↔ IsProgramMap ns pls text
