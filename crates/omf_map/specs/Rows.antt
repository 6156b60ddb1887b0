-- Definitions for the worked examples.
use Rattle.std.specs.Prelude.{ℕ, List, [], ◌∷◌, ◌++◌, flat_map, map, None, Option}
use Rattle.omf_check.specs.Rows.{H, N, S, M}
use Rattle.omf_linking.specs.Locator.Sparse.{Sparse}
use Rattle.omf_placement.specs.Placement.{Places}
use Rattle.omf_placement.specs.declared.frame.Placed.{Placed}
use Rattle.omf_reloc.specs.Modules.{module_of}
use Rattle.omf_map.specs.Addresses.{addressed_by, addresses_of}
use Rattle.omf_map.specs.MapText.{map_text}

-- The map of modules, by their bytes.
abbrev pub map_of : List (List ℕ × Places) → List ℕ
map_of ms = map_text (map (λ m. (module_of m.0, addresses_of m.1)) ms)

-- The map of modules, by what a text gives them.
abbrev pub map_by : List (List ℕ) → List Sparse → List ℕ
map_by ms ss = map_text (addressed_by (map module_of ms) ss)

-- A text gives a module these places.
abbrev pub gives : List (Option Placed) → List (Option Placed) → Sparse
gives segments externals = record { segments = segments; stored = map (λ s. None) segments; groups = []; externals = externals }

-- It also gives segments addresses at which they are stored.
abbrev pub stores : List (Option ℕ) → Sparse → Sparse
stores stored s = record s { stored = stored }

-- A text of these lines.
abbrev pub lines : List (List ℕ) → List ℕ
lines ls = flat_map (λ l. l ++ 10 ∷ []) ls

-- A segment of 2^32 bytes, without a name, of class T.
abbrev pub whole : List ℕ
whole = H ++ N ++ 0x99 ∷ 0x09 ∷ 0x00 ∷ 0x2A ∷ 0x00 ∷ 0x00 ∷ 0x00 ∷ 0x00 ∷ 0x00 ∷ 0x02 ∷ 0x01 ∷ 0x00 ∷ M

-- Two segments of 4 bytes; two publics in the second.
abbrev pub two_publics : List ℕ
two_publics = H ++ N ++ S ++ S ++ 0x90 ∷ 0x0E ∷ 0x00 ∷ 0x00 ∷ 0x02 ∷ 0x01 ∷ 0x58 ∷ 0x03 ∷ 0x00 ∷ 0x00 ∷ 0x02 ∷ 0x22 ∷ 0x07 ∷ 0x01 ∷ 0x00 ∷ 0x00 ∷ 0x00 ∷ M
