use Rattle.omf_finding.specs.Inner.Chaining.{HaveJoined}
use Rattle.omf_finding.proofs.chaining.Tried.explore.Given as goal

-- those that have joined are at the ends of chains
abbrev pub invariant-loop-before : goal.invariant-loop-before
invariant-loop-before l = HaveJoined l.self l.joined.marks.items
