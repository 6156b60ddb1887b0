-- The values of virtual segments (TIS OMF 1.1, "COMDEF").
use Rattle.std.specs.Prelude.{ℕ, List, Option}

-- An entry of a COMDEF, with the data type as it is: 61H far, 62H near, 01H to 5FH the index of a segment (Borland's). The count is of bytes or, in a far communal, of
-- elements; only that has the size of an element.
pub record EntryItem : Type 0 where
  pub name : List ℕ
  pub type_index : ℕ
  pub data_type : ℕ
  pub count : ℕ
  pub element : Option ℕ

-- A virtual segment: its name, and the index of the segment of the module that it is put with.
pub record VirtualItem : Type 0 where
  pub name : List ℕ
  pub segment : ℕ

-- What a module has: the virtual segment of each of its externals, if that has one; the index of its last name; and the indices of its virtual segments with data, each once,
-- in the order in which their data come.
pub record Table : Type 0 where
  pub virtuals : List (Option VirtualItem)
  pub last_name : ℕ
  pub filled : List ℕ

-- What a module has up to a record: the number of the externals passed, and the indices of the virtual segments that have data.
pub record Before : Type 0 where
  pub passed : ℕ
  pub filled : List ℕ
