use Rattle.std.proofs.Common.{length, take}
use Rattle.omf_finding.specs.Near.{differences}
use Rattle.omf_finding.specs.Inner.Nearing.{IsBest}
use Rattle.omf_finding.proofs.nearing.best_of.Given as goal

-- the best of the addresses so far
abbrev pub invariant-loop-address : goal.invariant-loop-address
invariant-loop-address l = IsBest (λ a. length (differences l.program.bytes.items l.program.base a l.closed)) l.most (take l.address-index l.addresses) l.best
