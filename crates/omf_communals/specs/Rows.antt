-- Records of the worked examples.
use Rattle.std.specs.Prelude.{ℕ, List, ◌∷◌, [], codes}
use Rattle.omf_frame.specs.Rows.{hex}
use Rattle.omf_communals.specs.declared.variable.Variable.{Variable}
use Rattle.omf_communals.specs.declared.variable.Variable.TheVariants.{Far, Near, Other}

-- the TYPDEF of a near scalar of 16 bits
abbrev pub word : List ℕ
word = hex (codes "8E 06 00 00 00 62 7B 10 7F")

-- the TYPDEF of a far array of 5 elements of type 1
abbrev pub five : List ℕ
five = hex (codes "8E 07 00 00 00 61 77 05 01 8D")

-- an EXTDEF of _v with type 1 and _f without a type
abbrev pub v_and_f : List ℕ
v_and_f = hex (codes "8C 09 00 02 5F 76 01 02 5F 66 00 CC")

-- an EXTDEF of _v with type 2
abbrev pub far_v : List ℕ
far_v = hex (codes "8C 05 00 02 5F 76 02 96")

-- a LEXTDEF of the same names as v_and_f
abbrev pub local : List ℕ
local = hex (codes "B4 09 00 02 5F 76 01 02 5F 66 00 A4")

-- near variables of 16 bits, 1 bit and no bit; a far one of 5 elements of type 1, and one of 5 elements of type 4; no variable
abbrev pub six : List Variable
six = Near 16 ∷ Near 1 ∷ Near 0 ∷ Far 5 1 ∷ Far 5 4 ∷ Other ∷ []
