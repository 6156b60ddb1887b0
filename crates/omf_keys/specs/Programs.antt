-- Programs of modules (laws about keys), each law the contract of a function of the same name.
use Rattle.std.specs.Prelude.{◌≡◌, ◌↔◌, ℕ, ◌+◌, List, [], ◌∷◌, None}
use Rattle.omf_check.specs.Module.{Module, typed_modules}
use Rattle.omf_placement.specs.Derive.{placed_modules}
use Rattle.omf_placement.specs.Placement.{Places}
use Rattle.omf_layout.specs.declared.options.Options.{Options}
use Rattle.omf_layout.specs.Several.Placing.{arranged_places}
use Rattle.omf_output.specs.Exe.Com.{com_fault}
use Rattle.omf_output.specs.Exe.Derived.{AreMovers}
use Rattle.omf_output.specs.Exe.Linked.{exe_fault, linked, linked_at}
use Rattle.omf_output.specs.Exe.Members.{Member, portions}
use Rattle.omf_output.specs.Exe.Moved.{Movers}
use Rattle.omf_keys.specs.Keys.{HaveEqualKeys}

-- Modules of equal keys are laid out in the same places.
abbrev pub PlacesByKeys : Type 0
PlacesByKeys = (o : Options) (ms ns : List Module) → HaveEqualKeys ms ns → arranged_places o (typed_modules ms) ≡ arranged_places o (typed_modules ns)

-- The same of them moves.
abbrev pub MoversByKeys : Type 0
MoversByKeys = (ms ns : List Module) (places : List Places) (movers : List Movers) → HaveEqualKeys ms ns
    → AreMovers (typed_modules ms) (placed_modules ms places) movers → AreMovers (typed_modules ns) (placed_modules ns places) movers

-- Modules at their placements, with what moves of them, numbered from j on.
abbrev pub members_at : ℕ → List Module → List Places → List Movers → List Member
members_at j [] pls mvs = []
members_at j (m ∷ ms) [] mvs = []
members_at j (m ∷ ms) (pl ∷ pls) [] = []
members_at j (m ∷ ms) (pl ∷ pls) (mv ∷ mvs) = record { number = j; bytes = m.bytes; places = pl; movers = mv } ∷ members_at (j + 1) ms pls mvs

-- Members give one program: the same file, the same memory at every paragraph, the same stack; and one has a fault exactly if the other has.
pub record AreOneProgram (ms ns : List Member) : Type 0 where
  pub linked : linked ms ≡ linked ns
  pub at : (k : ℕ) → linked_at k ms ≡ linked_at k ns
  pub portions : portions ms ≡ portions ns
  pub exe : (exe_fault ms ≡ None) ↔ (exe_fault ns ≡ None)
  pub flat : (com_fault ms ≡ None) ↔ (com_fault ns ≡ None)

-- At the same placements modules of equal keys give one program.
abbrev pub ProgramsByKeys : Type 0
ProgramsByKeys = (j : ℕ) (ms ns : List Module) (placements : List Places) (movers : List Movers) → HaveEqualKeys ms ns
    → AreOneProgram (members_at j ms placements movers) (members_at j ns placements movers)
