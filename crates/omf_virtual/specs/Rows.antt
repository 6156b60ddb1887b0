-- Records of the worked examples.
use Rattle.std.specs.Prelude.{ℕ, Bool, List, Option, codes, flat_map, map}
use Rattle.omf_frame.specs.Framing.{front_record, raw_bytes}
use Rattle.omf_frame.specs.Rows.{hex}
use Rattle.omf_virtual.specs.Origins.{comdats_origin}
use Rattle.omf_virtual.specs.Virtual.{gets_comdats, with_comdats}

-- The bytes of these records, those with COMDATs in place of virtual segments, and whether they get these.
abbrev pub bytes_of : List (List ℕ) → List ℕ
bytes_of texts = flat_map (λ t. hex t) texts

abbrev pub lowered : List (List ℕ) → List ℕ
lowered texts = flat_map raw_bytes (with_comdats (map (λ t. front_record (hex t)) texts))

abbrev pub gets : List (List ℕ) → Bool
gets texts = gets_comdats (map (λ t. front_record (hex t)) texts)

-- The number of the record of these from which the record with a number comes.
abbrev pub origin : List (List ℕ) → ℕ → Option ℕ
origin texts n = comdats_origin (map (λ t. front_record (hex t)) texts) n

-- a THEADR
abbrev pub header : List ℕ
header = codes "80 03 00 01 41 3B"

-- an LNAMES with the empty name, _TEXT and CODE
abbrev pub lnames : List ℕ
lnames = codes "96 0D 00 00 05 5F 54 45 58 54 04 43 4F 44 45 95"

-- an LNAMES with _v
abbrev pub name_v : List ℕ
name_v = codes "96 04 00 02 5F 76 8F"

-- the SEGDEF of _TEXT
abbrev pub text : List ℕ
text = codes "98 07 00 28 00 00 02 03 01 33"

-- a COMDEF of _a, near, and of _v, a virtual segment of 3 bytes in segment 1
abbrev pub a_and_v : List ℕ
a_and_v = codes "B0 0D 00 02 5F 61 00 62 02 02 5F 76 00 01 03 42"

-- a COMDEF of _a
abbrev pub near_a : List ℕ
near_a = codes "B0 07 00 02 5F 61 00 62 02 23"

-- an EXTDEF of _v
abbrev pub extern_v : List ℕ
extern_v = codes "8C 05 00 02 5F 76 00 98"

-- an EXTDEF of _f
abbrev pub extern_f : List ℕ
extern_f = codes "8C 05 00 02 5F 66 00 A8"

-- two bytes of external 2, a virtual segment
abbrev pub data_v : List ℕ
data_v = codes "A0 07 00 C0 02 00 00 B8 00 DF"

-- the COMDAT of these, with name 4
abbrev pub comdat_v : List ℕ
comdat_v = codes "C2 0C 00 00 10 00 00 00 00 00 01 04 B8 00 65"

-- a MODEND
abbrev pub modend : List ℕ
modend = codes "8A 02 00 00 74"
