-- The rows and the bytes of a module's data records before relocation (TIS OMF 1.1, "LEDATA", "LIDATA"; the form of the rows is this profile's
-- rule).
use Rattle.std.specs.Prelude.{ℕ, ◌+◌, ◌==◌, List, [], ◌∷◌, length, flat_map, Option, Some, None, if◌then◌else◌}
use Rattle.omf_frame.specs.declared.fault.Place.{Place}
use Rattle.omf_frame.specs.Framing.{Raw}
use Rattle.omf_records.specs.Values.{Rec, Contents, Plain, Iterated, DataItem, width}
-- computed: blocks_are_read and lengths_are_decided of omf_image.
use Rattle.omf_image.specs.Inner.Expanding.{expanded}
use Rattle.omf_image.specs.Limits.{profile_limits}
use Rattle.omf_check.specs.Listed.{placed_from}
use Rattle.omf_c.specs.declared.rows.DataRow.{DataRow}

-- A data record of `size` bytes of data. What it stores follows its offset field, which is as wide as its type has it.
abbrev pub data_row : Place → ℕ → DataItem → ℕ → DataRow
data_row p kind d size = record {
  stored = record { offset = p.start + d.offset.within + width kind; size = length d.bytes };
  size = size;
  offset = d.offset.item;
  segment = d.segment.item;
  type_byte = kind;
  number = p.number;
}

-- The bytes of a data record: the data of an LEDATA, or those that the blocks of an LIDATA expand to.
abbrev pub contents_bytes : ℕ → Contents → List ℕ
contents_bytes kind (Plain d) = d.bytes
contents_bytes kind (Iterated d) = expanded (width kind) profile_limits d.bytes
contents_bytes kind _ = []

abbrev pub contents_rows : Place → ℕ → Contents → List DataRow
contents_rows p kind (Plain d) = data_row p kind d (length (contents_bytes kind (Plain d))) ∷ []
contents_rows p kind (Iterated d) = data_row p kind d (length (contents_bytes kind (Iterated d))) ∷ []
contents_rows p kind _ = []

-- The data records of a module, in file order.
abbrev pub data_rows : List Raw → List DataRow
data_rows records = flat_map (λ x. contents_rows x.0 x.1.kind x.1.contents) (placed_from 0 0 records)

-- The record with a number.
abbrev pub numbered : ℕ → List (Place × Rec) → Option Rec
numbered number [] = None
numbered number (x ∷ xs) = if x.0.number == number then Some x.1 else numbered number xs

-- Its bytes, if it is a data record.
abbrev pub bytes_if : Option Rec → List ℕ
bytes_if None = []
bytes_if (Some r) = contents_bytes r.kind r.contents

abbrev pub data_bytes : ℕ → List Raw → List ℕ
data_bytes number records = bytes_if (numbered number (placed_from 0 0 records))
