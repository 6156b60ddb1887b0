use Rattle.omf_finding.specs.Inner.Chaining.{HaveJoined}
use Rattle.omf_finding.proofs.chaining.Tried.follow.Given as goal

-- those that have joined are at the ends of chains
abbrev pub invariant-loop-step : goal.invariant-loop-step
invariant-loop-step l = HaveJoined l.self l.joined.marks.items
