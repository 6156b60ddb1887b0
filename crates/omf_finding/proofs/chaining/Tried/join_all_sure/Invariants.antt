use Rattle.omf_finding.specs.Inner.Chaining.{HaveJoined}
use Rattle.omf_finding.proofs.chaining.Tried.join_all_sure.Given as goal

-- those that have joined are at the ends of chains
abbrev pub invariant-loop-number : goal.invariant-loop-number
invariant-loop-number l = HaveJoined l.self l.joined.marks.items
