use Rattle.std.proofs.Common.{◌≡◌, ◌≤◌, ◌+◌, ◌-◌, drop, length}
use Rattle.std.specs.Prelude.{slice_get}
use Rattle.omf_check.specs.Module.{records_in}
use Rattle.omf_check.specs.Tables.{segments}
use Rattle.omf_check.specs.WellFormed.{recs}
use Rattle.omf_reloc.specs.Inner.ReachSteps.{misplaced_from}
use Rattle.omf_reloc.proofs.reaching.absolute_fault.Given as goal

-- the first fault of the segments to come is the first of all
abbrev pub invariant-loop-index : goal.invariant-loop-index
invariant-loop-index l = record {
  start : 1 ≤ l.index;
  end : l.index-end ≡ length (segments (recs (records_in l.module.bytes))) + 1;
  same : slice_get (misplaced_from l.placement l.index (drop (l.index - 1) (segments (recs (records_in l.module.bytes))))) 0
      ≡ slice_get (misplaced_from l.placement 1 (segments (recs (records_in l.module.bytes)))) 0;
}
