use Rattle.omf_finding.specs.Inner.Nearing.{Adds}
use Rattle.omf_finding.proofs.ShownLaws.{IsOfWindows}
use Rattle.omf_finding.proofs.nearing.Indexed.push_shown.Given as goal

-- the addresses of the windows so far
abbrev pub invariant-loop-k : goal.invariant-loop-k
invariant-loop-k l = Adds (IsOfWindows l.self.windows.now.sorted.items l.self.program.now.base l.rare.key l.rare.offset l.first l.k) l.fn.addresses.items l.addresses.items
