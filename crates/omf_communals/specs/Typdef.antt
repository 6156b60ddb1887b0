-- The contents of a TYPDEF that describes a communal (TIS OMF 1.1, "TYPDEF").
use Rattle.std.specs.Prelude.{ℕ, List, [], ◌∷◌, ◌==◌}
use Rattle.omf_frame.specs.Bytes.{is_one_of}
use Rattle.omf_frame.specs.declared.fault.Reason.TheVariants as reason
use Rattle.omf_records.specs.Layout.{Layout, ◌>>=◌, byte, checked, choose, communal_length, ends, index, name}
use Rattle.omf_records.specs.Entries.{unless}
use Rattle.omf_communals.specs.declared.variable.Variable.{Variable}
use Rattle.omf_communals.specs.declared.variable.Variable.TheVariants as variable

-- A byte that is one of these.
abbrev pub code : List ℕ → Layout ℕ
code allowed = checked byte (λ c. unless (is_one_of allowed c) reason.CommunalType)

-- The leaf of a near variable, after its byte 62H: a type of variable (77H an array, 79H a structure, 7BH a scalar), and its length in bits.
abbrev pub near : Layout Variable
near = do
  kind ← code (0x77 ∷ 0x79 ∷ 0x7B ∷ [])
  bits ← communal_length
  ends (variable.Near bits)

-- The leaf of a far variable, after its byte 61H: 77H, an array; the number of its elements; the type index of an element, the TYPDEF of a near variable.
abbrev pub far : Layout Variable
far = do
  kind ← code (0x77 ∷ [])
  count ← communal_length
  element ← index
  ends (variable.Far count element)

-- TYPDEF: a name, which counts for nothing; the byte EN, 0; one leaf. (A TYPDEF of another form describes no communal: this profile's rule.)
abbrev pub typdef : Layout Variable
typdef = do
  text ← name
  en ← code (0 ∷ [])
  leaf ← code (0x61 ∷ 0x62 ∷ [])
  choose (leaf == 0x62) near far
