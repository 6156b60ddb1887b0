-- What is kept of the records so far to show the next one, computed record by record.
use Rattle.std.specs.Prelude.{[], ◌∷◌, ◌++◌, map, Option, Some, None}
use Rattle.omf_records.specs.Values.{Contents, Names, Segment, Group, Externs, Communals, Plain, Iterated}
use Rattle.omf_dump.specs.Known.{Data, Tables}

abbrev pub no_tables : Tables
no_tables = record { names = []; segments = []; groups = []; externals = [] }

-- the tables after one more record
abbrev pub with_contents : Tables → Contents → Tables
with_contents t (Names items) = record t { names = t.names ++ map (λ n. n.item) items }
with_contents t (Segment s) = record t { segments = t.segments ++ s.name.item ∷ [] }
with_contents t (Group g) = record t { groups = t.groups ++ g.name.item ∷ [] }
with_contents t (Externs items) = record t { externals = t.externals ++ map (λ e. e.item.name) items }
with_contents t (Communals items) = record t { externals = t.externals ++ map (λ c. c.item.name) items }
with_contents t _ = t

-- the data that a fixup changes, after one more record
abbrev pub data_after : Option Data → Contents → Option Data
data_after fixed (Plain d) = Some (record { offset = d.offset.item; bytes = d.bytes })
data_after fixed (Iterated d) = None
data_after fixed _ = fixed
