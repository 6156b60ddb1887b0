-- What earlier records give to show a record: the names of indices, and the data that fixups change.
use Rattle.std.specs.Prelude.{ℕ, List, map, Option, Some, None, option_and_then}
use Rattle.omf_records.specs.Values.{Rec, Contents, Plain}
use Rattle.omf_check.specs.Tables.{names, segments, groups, externals, entry, last_data}
use Rattle.omf_dump.specs.Fields.{Entry}

-- Names; the name index of each segment and of each group; external names.
pub record Tables : Type 0 where
  pub names : List (List ℕ)
  pub segments : List ℕ
  pub groups : List ℕ
  pub externals : List (List ℕ)

-- The tables after these records.
abbrev pub tables : List Rec → Tables
tables before = record {
  names = names before;
  segments = map (λ s. s.name) (segments before);
  groups = map (λ g. g.name.item) (groups before);
  externals = externals before;
}

-- The entry of an index: a name, a segment or a group by its name, an external.
abbrev pub name_entry : Tables → ℕ → Entry
name_entry t i = record { index = i; name = entry t.names i }

abbrev pub segment_entry : Tables → ℕ → Entry
segment_entry t i = record { index = i; name = option_and_then (entry t.names) (entry t.segments i) }

abbrev pub group_entry : Tables → ℕ → Entry
group_entry t i = record { index = i; name = option_and_then (entry t.names) (entry t.groups i) }

abbrev pub external_entry : Tables → ℕ → Entry
external_entry t i = record { index = i; name = entry t.externals i }

-- The data of an LEDATA, and their offset in their segment.
pub record Data : Type 0 where
  pub offset : ℕ
  pub bytes : List ℕ

-- The data that a fixup changes: those of the last data record, if it is an LEDATA.
abbrev pub plain_data : Contents → Option Data
plain_data (Plain d) = Some (record { offset = d.offset.item; bytes = d.bytes })
plain_data _ = None

abbrev pub fixed_data : List Rec → Option Data
fixed_data before = option_and_then plain_data (last_data before)
