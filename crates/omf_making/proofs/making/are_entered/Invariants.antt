use Rattle.std.proofs.Common.{length}
use Rattle.omf_making.specs.Made.{AreEntered, opened_seen}
use Rattle.omf_making.proofs.making.are_entered.Given as goal

-- what is left decides
abbrev pub invariant-loop-rest : goal.invariant-loop-rest
invariant-loop-rest l = AreEntered (opened_seen l.opened) l.page l.rest → AreEntered (opened_seen l.opened) l.page l.names

abbrev pub decreases-loop-rest : goal.decreases-loop-rest
decreases-loop-rest l = length l.rest
