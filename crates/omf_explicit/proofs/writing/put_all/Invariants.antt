use Rattle.std.proofs.Common.{◌≡◌, ◌++◌, drop}
use Rattle.std.specs.Prelude.{flat_map, map}
use Rattle.omf_frame.specs.Framing.{raw_bytes}
use Rattle.omf_explicit.specs.Explicit.{plain_record}
use Rattle.omf_explicit.proofs.writing.put_all.Given as goal

-- the records so far, and those to come
abbrev pub invariant-loop-record : goal.invariant-loop-record
invariant-loop-record l = l.out.items ++ flat_map raw_bytes (map (plain_record l.table) (drop l.record-index l.records))
    ≡ l.fn.out.items ++ flat_map raw_bytes (map (plain_record l.table) l.records)
