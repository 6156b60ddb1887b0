use Rattle.std.proofs.Common.{◌≡◌, ◌++◌, drop}
use Rattle.std.specs.Prelude.{flat_map, fold}
use Rattle.omf_frame.specs.Framing.{raw_bytes}
use Rattle.omf_virtual.specs.Inner.Writing.{up_to_next, with_state}
use Rattle.omf_virtual.proofs.writing.put_all.Given as goal

-- the records so far, and those to come
abbrev pub invariant-loop-record : goal.invariant-loop-record
invariant-loop-record l = record {
  bytes : l.out.items ++ flat_map raw_bytes (with_state l.table l.before (drop l.record-index l.records)) ≡ l.fn.out.items ++ flat_map raw_bytes (with_state l.table l.fn.before l.records);
  state : fold (up_to_next l.table.virtuals) l.before (drop l.record-index l.records) ≡ fold (up_to_next l.table.virtuals) l.fn.before l.records;
}
