use Rattle.std.proofs.Common.{◌≤◌, length}
use Rattle.omf_lowering.specs.Inner.State.{IsOpen}
use Rattle.omf_lowering.proofs.lowering.origin_in.Given as goal

-- the records so far have no fault, and give no more lowered records than the number
abbrev pub invariant-loop-number : goal.invariant-loop-number
invariant-loop-number l = record {
  open_still : IsOpen l.bytes l.rest l.number l.work;
  few : length l.work.before.records ≤ l.wanted;
}
