use Rattle.omf_finding.proofs.SingleLaws.{AreSwept}
use Rattle.omf_finding.proofs.singles.alone.Given as goal

-- those so far without a rival are added, but for the last one
abbrev pub invariant-loop-single : goal.invariant-loop-single
invariant-loop-single l = AreSwept l.sorted l.single-index l.last l.alone
