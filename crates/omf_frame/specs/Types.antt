-- The types of records by their names in the standard, and what this profile does with their records; the width of their fields
-- (TIS OMF 1.1, "Record types").
use Rattle.std.specs.Prelude.{ℕ, List, [], ◌∷◌, ◌++◌, flat_map, filter, find, unwrap_or, option_map, Option, Bool, true, false, codes, ◌%◌, ◌==◌, if◌then◌else◌}
use Rattle.omf_frame.specs.Bytes.{is_one_of}
use Rattle.omf_frame.specs.declared.kinds.RecordType.{RecordType}
use Rattle.omf_frame.specs.declared.kinds.RecordType.TheVariants.{
  Theadr,
  Lheadr,
  Coment,
  Modend,
  Extdef,
  Pubdef,
  Lnames,
  Segdef,
  Grpdef,
  Fixupp,
  Ledata,
  Lidata,
  Comdef,
  Lextdef,
  Lpubdef,
  Lcomdef,
  Llnames,
  Typdef,
  Linnum,
  Linsym,
  Alias,
  Vernum,
  Bakpat,
  Cextdef,
  Comdat,
  Nbkpat,
  Vendext,
  Library,
}
use Rattle.omf_frame.specs.declared.kinds.Treatment.{Treatment}
use Rattle.omf_frame.specs.declared.kinds.Treatment.TheVariants.{Read, Carried, Refused}
use Rattle.omf_frame.specs.declared.kinds.Width.{Width}
use Rattle.omf_frame.specs.declared.kinds.Width.TheVariants.{Bits16, Bits32}

-- A record type: its type bytes, its name, and what this profile does with its records.
pub record Row : Type 0 where
  pub bytes : List ℕ
  pub name : List ℕ
  pub treatment : Treatment

abbrev pub type_row : List ℕ → List ℕ → Treatment → Row
type_row bytes name treatment = record { bytes = bytes; name = name; treatment = treatment }

-- The table of record types. Of records that are carried no field is read: debug, naming and version information. B5H as a second type byte of LEXTDEF is this profile's rule; so is what is refused: data selected or
-- patched at link time, vendors' extensions, libraries.
abbrev pub row : RecordType → Row
row Theadr = type_row (0x80 ∷ []) (codes "THEADR") Read
row Lheadr = type_row (0x82 ∷ []) (codes "LHEADR") Read
row Coment = type_row (0x88 ∷ []) (codes "COMENT") Read
row Modend = type_row (0x8A ∷ 0x8B ∷ []) (codes "MODEND") Read
row Extdef = type_row (0x8C ∷ []) (codes "EXTDEF") Read
row Pubdef = type_row (0x90 ∷ 0x91 ∷ []) (codes "PUBDEF") Read
row Lnames = type_row (0x96 ∷ []) (codes "LNAMES") Read
row Segdef = type_row (0x98 ∷ 0x99 ∷ []) (codes "SEGDEF") Read
row Grpdef = type_row (0x9A ∷ []) (codes "GRPDEF") Read
row Fixupp = type_row (0x9C ∷ 0x9D ∷ []) (codes "FIXUPP") Read
row Ledata = type_row (0xA0 ∷ 0xA1 ∷ []) (codes "LEDATA") Read
row Lidata = type_row (0xA2 ∷ 0xA3 ∷ []) (codes "LIDATA") Read
row Comdef = type_row (0xB0 ∷ []) (codes "COMDEF") Read
row Lextdef = type_row (0xB4 ∷ 0xB5 ∷ []) (codes "LEXTDEF") Read
row Lpubdef = type_row (0xB6 ∷ 0xB7 ∷ []) (codes "LPUBDEF") Read
row Lcomdef = type_row (0xB8 ∷ []) (codes "LCOMDEF") Read
row Llnames = type_row (0xCA ∷ []) (codes "LLNAMES") Read
row Typdef = type_row (0x8E ∷ []) (codes "TYPDEF") Carried
row Linnum = type_row (0x94 ∷ 0x95 ∷ []) (codes "LINNUM") Carried
row Linsym = type_row (0xC4 ∷ 0xC5 ∷ []) (codes "LINSYM") Carried
row Alias = type_row (0xC6 ∷ []) (codes "ALIAS") Carried
row Vernum = type_row (0xCC ∷ []) (codes "VERNUM") Carried
row Bakpat = type_row (0xB2 ∷ 0xB3 ∷ []) (codes "BAKPAT") Refused
row Cextdef = type_row (0xBC ∷ []) (codes "CEXTDEF") Refused
row Comdat = type_row (0xC2 ∷ 0xC3 ∷ []) (codes "COMDAT") Refused
row Nbkpat = type_row (0xC8 ∷ 0xC9 ∷ []) (codes "NBKPAT") Refused
row Vendext = type_row (0xCE ∷ []) (codes "VENDEXT") Refused
row Library = type_row (0xF0 ∷ 0xF1 ∷ []) (codes "library") Refused

-- All record types.
abbrev pub record_types : List RecordType
record_types = Theadr ∷ Lheadr ∷ Coment ∷ Modend ∷ Extdef ∷ Pubdef ∷ Lnames ∷ Segdef ∷ Grpdef ∷ Fixupp ∷ Ledata ∷ Lidata ∷ Comdef
    ∷ Lextdef ∷ Lpubdef ∷ Lcomdef ∷ Llnames ∷ Typdef ∷ Linnum ∷ Linsym ∷ Alias ∷ Vernum
    ∷ Bakpat ∷ Cextdef ∷ Comdat ∷ Nbkpat ∷ Vendext ∷ Library ∷ []

-- The type with a type byte, if it is known.
abbrev pub type_of : ℕ → Option RecordType
type_of kind = find (λ t. is_one_of (row t).bytes kind) record_types

-- The name of a known type.
abbrev pub type_name : ℕ → List ℕ
type_name kind = unwrap_or (option_map (λ t. (row t).name) (type_of kind)) []

-- Two treatments are the same.
abbrev pub is_same_treatment : Treatment → Treatment → Bool
is_same_treatment Read Read = true
is_same_treatment Carried Carried = true
is_same_treatment Refused Refused = true
is_same_treatment _ _ = false

-- The types whose records are treated so.
abbrev pub types_treated : Treatment → List RecordType
types_treated treatment = filter (λ t. is_same_treatment treatment (row t).treatment) record_types

-- The type is known, and its records are treated so.
abbrev pub is_treated : Treatment → ℕ → Bool
is_treated treatment kind = is_one_of (flat_map (λ t. (row t).bytes) (types_treated treatment)) kind

abbrev pub carried : List RecordType
carried = types_treated Carried

abbrev pub coment : List ℕ
coment = (row Coment).bytes

abbrev pub extdef : List ℕ
extdef = (row Extdef).bytes

abbrev pub pubdef : List ℕ
pubdef = (row Pubdef).bytes

abbrev pub lnames : List ℕ
lnames = (row Lnames).bytes

abbrev pub segdef : List ℕ
segdef = (row Segdef).bytes

abbrev pub grpdef : List ℕ
grpdef = (row Grpdef).bytes

abbrev pub fixupp : List ℕ
fixupp = (row Fixupp).bytes

abbrev pub ledata : List ℕ
ledata = (row Ledata).bytes

abbrev pub lidata : List ℕ
lidata = (row Lidata).bytes

abbrev pub comdef : List ℕ
comdef = (row Comdef).bytes

abbrev pub lextdef : List ℕ
lextdef = (row Lextdef).bytes

abbrev pub lpubdef : List ℕ
lpubdef = (row Lpubdef).bytes

abbrev pub lcomdef : List ℕ
lcomdef = (row Lcomdef).bytes

abbrev pub llnames : List ℕ
llnames = (row Llnames).bytes

-- Local records have the layouts of EXTDEF, PUBDEF, COMDEF and LNAMES.
abbrev pub local_types : List ℕ
local_types = lextdef ++ lpubdef ++ lcomdef ++ llnames

abbrev pub is_local : ℕ → Bool
is_local kind = is_one_of local_types kind

-- The width of the offsets, lengths and displacements in a record. If a type has two type bytes, the odd one has 32-bit fields.
abbrev pub width_of : ℕ → Width
width_of kind = if kind % 2 == 1 then Bits32 else Bits16

abbrev pub width_bytes : Width → ℕ
width_bytes Bits16 = 2
width_bytes Bits32 = 4
