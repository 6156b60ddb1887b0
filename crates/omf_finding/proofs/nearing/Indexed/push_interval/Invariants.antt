use Rattle.omf_finding.specs.Inner.Nearing.{Adds, IsShownIn}
use Rattle.omf_finding.proofs.nearing.Indexed.push_interval.Given as goal

-- the addresses of the indices so far
abbrev pub invariant-loop-at : goal.invariant-loop-at
invariant-loop-at l = Adds (IsShownIn l.self.program.now.bytes.items l.self.program.now.base l.interval l.at) l.fn.addresses.items l.addresses.items
