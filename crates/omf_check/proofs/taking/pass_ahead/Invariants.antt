use Rattle.std.proofs.Common.{◌-◌, ◌^◌, ◌≤◌}
use Rattle.omf_check.proofs.AheadLaws.{HasPassed}
use Rattle.omf_check.proofs.taking.pass_ahead.Given as goal

abbrev pub invariant-loop-count : goal.invariant-loop-count
invariant-loop-count g l = record {
  passed : HasPassed l.fn.profile l.initial.framer.held l.initial.tables (g.S.Source.seen l.initial.reader) (g.S.Source.seen l.reader) (g.K.Keeper.kept l.initial.keeper) (g.K.Keeper.kept l.keeper) l.framer.held l.tables l.size;
  room : l.initial.framer.room ≤ l.framer.room;
}

abbrev pub decreases-loop-count : goal.decreases-loop-count
decreases-loop-count g l = 2 ^ 37 - l.size
