-- The layout of a COMDEF with the data types of Borland's compilers (TIS OMF 1.1, "COMDEF").
use Rattle.std.specs.Prelude.{◌==◌, List}
use Rattle.omf_records.specs.Values.{At}
use Rattle.omf_records.specs.Layout.{Layout, ◌>>=◌, byte, communal_length, give, index, many, name, when}
use Rattle.omf_virtual.specs.Values.{EntryItem}

-- A name, a type index, a data type and a length; a far communal (61H) has the number of its elements in place of the length, and then their size.
abbrev pub entry : Layout EntryItem
entry = do
  text ← name
  type_index ← index
  data_type ← byte
  count ← communal_length
  element ← when (data_type == 0x61) communal_length
  give (record { name = text; type_index = type_index; data_type = data_type; count = count; element = element })

abbrev pub comdef : Layout (List (At EntryItem))
comdef = many entry
