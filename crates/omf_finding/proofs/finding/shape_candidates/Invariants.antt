use Rattle.std.proofs.Common.{take}
use Rattle.omf_finding.proofs.CandidateLaws.{AreFor}
use Rattle.omf_finding.proofs.finding.shape_candidates.Given as goal

-- the candidates of the shapes so far
abbrev pub invariant-loop-shape : goal.invariant-loop-shape
invariant-loop-shape l = AreFor l.ended.program.now l.ended.most l.module (take l.shape-index l.shapes) l.candidates.items
