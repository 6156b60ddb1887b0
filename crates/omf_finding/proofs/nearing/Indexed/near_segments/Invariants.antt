use Rattle.omf_finding.specs.Inner.Nearing.{AreNearOf}
use Rattle.omf_finding.specs.Inner.Walking.{byte_in}
use Rattle.omf_finding.proofs.nearing.Indexed.near_segments.Given as goal

-- the segments so far
abbrev pub invariant-loop-index : goal.invariant-loop-index
invariant-loop-index l = AreNearOf (byte_in l.pattern) l.self.program.now l.most l.index l.nears.items
