use Rattle.std.proofs.Common.{◌≡◌, ◌++◌, length}
use Rattle.std.specs.Vec.Iter.{into_iter_items}
use Rattle.omf_lowering.specs.Patches.{pieces_from}
use Rattle.omf_lowering.proofs.work.append_all.Given as goal

-- the records so far are appended with their data, and the others are left
abbrev pub invariant-loop-record : goal.invariant-loop-record
invariant-loop-record l = record {
  records : l.records.items ++ into_iter_items l.record-iterator ≡ l.fn.records.items ++ l.fn.added.items;
  pieces : l.pieces ++ pieces_from (length l.records.items) (into_iter_items l.record-iterator) ≡ l.fn.pieces ++ pieces_from (length l.fn.records.items) l.fn.added.items;
}
