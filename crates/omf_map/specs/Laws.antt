-- A law of the maps of programs, the contract of a function of the same name.
use Rattle.std.specs.Prelude.{◌≡◌, ℕ, List}
use Rattle.omf_check.specs.Module.{Module}
use Rattle.omf_placement.specs.Placement.{Places}
use Rattle.omf_map.specs.Far.{IsProgramMap}

-- The map of a program is one text.
abbrev pub MapsAreOne : Type 0
MapsAreOne = (ms : List Module) (pls : List Places) (s t : List ℕ) → IsProgramMap ms pls s → IsProgramMap ms pls t → s ≡ t
