use Rattle.std.proofs.Common.{◌-◌, ◌^◌, ◌≤◌}
use Rattle.omf_check.proofs.JudgingLaws.{HasJudged}
use Rattle.omf_check.proofs.taking.take_module.Given as goal

-- what was read was judged, or is the record at hand
abbrev pub invariant-loop-profile : goal.invariant-loop-profile
invariant-loop-profile g l = record {
  judged : HasJudged l.fn.profile (g.S.Source.seen l.initial.reader) (g.S.Source.seen l.reader) (g.K.Keeper.kept l.initial.keeper) (g.K.Keeper.kept l.keeper) l.framer.held l.tables l.size;
  room : l.initial.framer.room ≤ l.framer.room;
}

abbrev pub decreases-loop-profile : goal.decreases-loop-profile
decreases-loop-profile g l = 2 ^ 37 - l.size
