-- Definitions for the worked examples.
use Rattle.std.specs.Prelude.{ℕ, List, [], ◌∷◌, Bool, Option, Some, None, codes, slice_get, ◌==◌, if◌then◌else◌}
use Rattle.omf_placement.specs.declared.several.given.Given.{Given}
use Rattle.omf_placement.specs.declared.frame.Frame.{Frame}
use Rattle.omf_placement.specs.declared.frame.Placed.{Placed}
use Rattle.omf_placement.specs.Placement.{Places}
use Rattle.omf_records.specs.Values.{Rec, ModEnd, Segment}
use Rattle.omf_linking.specs.Space.Memory.{Share}
use Rattle.omf_linking.specs.Locator.Rows.{lines}
use Rattle.omf_linking.specs.Locator.Sparse.{Sparse}
use Rattle.omf_linking.specs.Placing.{placed_by}
use Rattle.omf_linking.specs.Segments.{ModuleBytes}
use Rattle.omf_linking.specs.declared.relocated.Relocated.{Relocated}

-- What is given to groups alone, and to externals alone.
abbrev pub given_groups : List (Option (Option Frame)) → Sparse
given_groups fs = record { segments = []; stored = []; groups = fs; externals = [] }

abbrev pub given_externals : List (Option Placed) → Sparse
given_externals ps = record { segments = []; stored = []; groups = []; externals = ps }

-- The places of the three segments of module m, and a text that gives it these. The first and the last have one name.
abbrev pub place_at : ℕ → Placed
place_at address = record { address = address; frame = record { base = 0; selector = 0 } }

abbrev pub three_places : Places
three_places = placed_by (place_at 0x10 ∷ place_at 0x20 ∷ place_at 0x30 ∷ []) []

abbrev pub three_lines : List ℕ
three_lines = lines (codes "M \"m\"" ∷ codes "S \"A\" \"B\" 30 0 0" ∷ codes "S #1 10 0 0" ∷ codes "S \"B\" 20 0 0" ∷ [])

-- An external of a module with its place in the text, in the frame at 0.
abbrev pub given_at : ℕ → ℕ → ℕ → Given
given_at j i address = record { «module» = j; external = i; address = address; frame = record { base = 0; selector = 0 } }

-- A module with this type byte of its MODEND, and a start.
abbrev pub ending : ℕ → ℕ × ℕ → List Rec × Relocated
ending byte start = (record { kind = 0x8A; contents = ModEnd byte None } ∷ [], record { image = []; start = Some start })

-- Segments with these attribute bytes.
abbrev pub segment_with : ℕ → Rec
segment_with attribute = record { kind = 0x98; contents = Segment (record { attribute = attribute; absolute = None; size = 2; name = record { within = 6; item = 1 }; class = record { within = 7; item = 1 }; overlay = 1 }) }

-- A module of one segment at an address, with these bytes.
abbrev pub lying : ℕ → ℕ → List ℕ → ModuleBytes
lying attribute a bs = (
  (segment_with attribute ∷ [], record { segments = record { address = a; frame = record { base = 0; selector = 0 } } ∷ []; groups = []; externals = [] }),
  λ segment x. if segment == 1 then slice_get bs x else None,
)

-- A byte of segment 1 of a module.
abbrev pub share : ℕ → Bool → ℕ → Share
share j common b = record { owner = record { «module» = j; segment = 1 }; common = common; byte = b }
