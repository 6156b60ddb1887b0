use Rattle.omf_find.specs.Room.{AreInOrder}
use Rattle.omf_find.proofs.GapLaws.{SoFar}
use Rattle.omf_find.proofs.gaps.gaps_of.Given as goal

-- the gaps before the segments so far
abbrev pub invariant-loop-row : goal.invariant-loop-row
invariant-loop-row l = AreInOrder l.rows → SoFar l.first l.end l.rows l.row-index l.next l.gaps.items
