use Rattle.std.proofs.Common.{length}
use Rattle.omf_making.specs.Made.{AreParts, opened_seen}
use Rattle.omf_making.proofs.making.are_parts.Given as goal

-- what is left decides
abbrev pub invariant-loop-rest : goal.invariant-loop-rest
invariant-loop-rest l = AreParts (opened_seen l.opened) l.rest l.others → AreParts (opened_seen l.opened) l.opened.members.now l.opened.parts.now

abbrev pub decreases-loop-rest : goal.decreases-loop-rest
decreases-loop-rest l = length l.rest
