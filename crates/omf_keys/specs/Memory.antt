-- The places of modules by a link text, and their memory (laws about keys), each law the contract of a function of the same name.
use Rattle.std.specs.Prelude.{◌≡◌, ◌↔◌, ℕ, List}
use Rattle.omf_records.specs.Values.{Rec}
use Rattle.omf_check.specs.Module.{Module, typed_modules}
use Rattle.omf_placement.specs.Placement.{Places}
use Rattle.omf_linking.specs.Placing.{linked, stored_by}
use Rattle.omf_linking.specs.Together.{AreOne}
use Rattle.omf_linking.specs.declared.together.Together.{Together}
use Rattle.omf_keys.specs.Keys.{HaveEqualKeys}

-- By the same text modules have the same placements, or the same first fault, and are stored at the same places.
pub record HaveSamePlaces (text : List ℕ) (ms ns : List (List Rec)) : Type 0 where
  pub linked : linked ms text ≡ linked ns text
  pub stored : (pls : List Places) → stored_by ms text pls ≡ stored_by ns text pls

abbrev pub TextsByKeys : Type 0
TextsByKeys = (ms ns : List Module) (text : List ℕ) → HaveEqualKeys ms ns → HaveSamePlaces text (typed_modules ms) (typed_modules ns)

-- At the same placements, and stored at the same places, modules of equal keys are one in the same memory, with the same start. So the files for chips are the same, which `memory_file` of omf_output makes of a memory and a start.
abbrev pub MemoriesByKeys : Type 0
MemoriesByKeys = (ms ns : List Module) (pls stored : List Places) (t : Together) → HaveEqualKeys ms ns → AreOne (typed_modules ms) pls stored t ↔ AreOne (typed_modules ns) pls stored t
