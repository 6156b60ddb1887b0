-- Definitions and modules of the worked examples.
use Rattle.std.specs.Prelude.{ℕ, List, [], ◌∷◌, None, codes}
use Rattle.omf_records.specs.Values.{At, ExternalItem, Rec, Comment, Externs, Publics}
use Rattle.omf_placement.specs.declared.frame.Placed.{Placed}
use Rattle.omf_placement.specs.declared.several.given.Given.{Given}
use Rattle.omf_placement.specs.declared.several.pairs.WeakPair.{WeakPair}
use Rattle.omf_placement.specs.Derive.{PlacedModule}

abbrev pub at : {A : Type 0} → A → At A
at a = record { within = 0; item = a }

abbrev pub pair : ℕ → ℕ → WeakPair
pair w d = record { weak = w; substitute = d }

abbrev pub place : ℕ → ℕ → ℕ → Placed
place address base selector = record { address = address; frame = record { base = base; selector = selector } }

abbrev pub given : ℕ → ℕ → Placed → Given
given j i p = record { «module» = j; external = i; address = p.address; frame = p.frame }

-- An EXTDEF of the names W, D and E, and a comment of class A8H.
abbrev pub external : List ℕ → At ExternalItem
external name = at (record { name = name; type_index = 0 })

abbrev pub externs : Rec
externs = record { kind = 0x8C; contents = Externs (external (codes "W") ∷ external (codes "D") ∷ external (codes "E") ∷ []) }

abbrev pub weak : List ℕ → Rec
weak text = record { kind = 0x88; contents = Comment 0 0xA8 text }

-- A module without segments that has them, and one whose segment, at 20040H in the frame of base 20000H, has this public at offset 2.
abbrev pub asking : List ℕ → PlacedModule
asking text = (externs ∷ weak text ∷ [], record { segments = []; groups = []; externals = [] })

abbrev pub public : List ℕ → Rec
public name = record { kind = 0x90; contents = Publics (record { group = at 0; segment = at 1; frame = None; items = at (record { name = name; offset = 2; type_index = 0 }) ∷ [] }) }

abbrev pub defining : List ℕ → PlacedModule
defining name = (public name ∷ [], record { segments = place 0x20040 0x20000 0x2000 ∷ []; groups = []; externals = [] })

abbrev pub defined : Placed
defined = place 0x20042 0x20000 0x2000
