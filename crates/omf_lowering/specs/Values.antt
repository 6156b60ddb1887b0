-- The values of COMDATs (TIS OMF 1.1, "COMDAT"). A byte of packed bits is kept whole; definitions after the records extract its bits.
use Rattle.std.specs.Prelude.{ℕ, ◌/◌, ◌%◌, Bool, false, List, Option, unwrap_or}
use Rattle.omf_frame.specs.Bytes.{has_bit}
use Rattle.omf_records.specs.Values.{At}
use Rattle.omf_check.specs.Tables.{entry}
use Rattle.omf_lowering.specs.declared.values.Pattern.{Pattern}

-- The base of a COMDAT with an explicit segment: group index, segment index, and a frame number if the segment index is 0.
pub record BaseItem : Type 0 where
  pub group : At ℕ
  pub segment : At ℕ
  pub frame : Option ℕ

-- COMDAT: flags; selection and allocation; alignment; offset of the data; type index; base; index of its name; data, or blocks as bytes.
pub record ComdatItem : Type 0 where
  pub flags : ℕ
  pub attributes : ℕ
  pub align : ℕ
  pub offset : At ℕ
  pub type_index : ℕ
  pub base : Option BaseItem
  pub name : At ℕ
  pub bytes : List ℕ

-- The flags: 01H, the data continue a COMDAT before; 02H, the data are blocks as an LIDATA's; 04H, the name is local.
abbrev pub is_continued : ℕ → Bool
is_continued flags = has_bit flags 0

abbrev pub is_iterated : ℕ → Bool
is_iterated flags = has_bit flags 1

abbrev pub is_local : ℕ → Bool
is_local flags = has_bit flags 2

-- The attributes: how a linker selects among COMDATs of one name, and where it allocates one.
abbrev pub selection : ℕ → ℕ
selection attributes = attributes / 16

abbrev pub allocation : ℕ → ℕ
allocation attributes = attributes % 16

-- The tables of a module: its names, whether each is local, what each SEGDEF is a pattern of, and the name index of each GRPDEF.
pub record Tables : Type 0 where
  pub names : List (List ℕ)
  pub locals : List Bool
  pub segments : List Pattern
  pub groups : List ℕ

-- Whether the name with an index is local.
abbrev pub is_local_name : List Bool → ℕ → Bool
is_local_name locals index = unwrap_or (entry locals index) false

-- A COMDAT in the lowered module: its name, the index of its segment, and the number of the SEGDEF of this segment among the records, from 0.
pub record Instance : Type 0 where
  pub name : List ℕ
  pub segment : ℕ
  pub number : ℕ

-- A COMDAT with what it refers to: the end of its data in its segment, the pattern of its segment, whether its name is local, and the instance that it is of.
pub record Resolved : Type 0 where
  pub item : ComdatItem
  pub end : ℕ
  pub pattern : Pattern
  pub is_local : Bool
  pub own : Instance
