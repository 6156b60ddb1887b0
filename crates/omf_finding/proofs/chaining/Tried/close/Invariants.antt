use Rattle.omf_finding.specs.Inner.Chaining.{HaveJoined}
use Rattle.omf_finding.specs.Inner.Closing.{left_of}
use Rattle.omf_finding.proofs.chaining.Tried.close.Given as goal

-- those that have joined are at the ends of chains
abbrev pub invariant-loop : goal.invariant-loop
invariant-loop l = HaveJoined l.self l.joined.marks.items

abbrev pub decreases-loop : goal.decreases-loop
decreases-loop l = left_of l.joined.marks.items
