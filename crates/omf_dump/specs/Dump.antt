-- The dump of records: each is shown by the records before it.
use Rattle.std.specs.Prelude.{◌≡◌, ◌<◌, ◌^◌, ℕ, List, [], length, flat_map, All}
use Rattle.omf_frame.specs.Bytes.{with_before}
use Rattle.omf_frame.specs.Framing.{Raw, raw_bytes}
-- computed: readings_meet_layouts and contents_are_typed_once of omf_records.
use Rattle.omf_records.specs.Inner.Reading.{typed}
use Rattle.omf_records.specs.Values.{Rec}
use Rattle.omf_check.specs.Listed.{IsReadable}
use Rattle.omf_check.specs.Tables.{subrecords}
use Rattle.omf_check.specs.WellFormed.{recs}
use Rattle.omf_dump.specs.Contents.{shown}
use Rattle.omf_dump.specs.Fields.{Shown}
use Rattle.omf_dump.specs.Known.{tables, fixed_data}
use Rattle.omf_dump.specs.Render.{record_text}
use Rattle.omf_dump.specs.declared.format.Style.{Style}

-- What is shown of a record after these records.
abbrev pub shown_after : List Rec → Rec → Shown
shown_after before r = shown (tables before) (fixed_data before) (subrecords before) r.kind r.contents

abbrev pub record_dump : Style → List Raw → Raw → List ℕ
record_dump f before r = record_text f (length before) (length (flat_map raw_bytes before)) r.kind r.checksum (shown_after (recs before) (typed r))

-- All records in order, none left out.
abbrev pub dump_text : Style → List Raw → List ℕ
dump_text f records = with_before (record_dump f) [] records

-- The bytes are these records, each of a known type and readable; they are fewer than 2^32.
pub record AreRecords (bytes : List ℕ) (records : List Raw) : Type 0 where
  pub spelled : bytes ≡ flat_map raw_bytes records
  pub readable : All IsReadable records
  pub few : length records < 2 ^ 32
