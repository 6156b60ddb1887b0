use Rattle.std.proofs.Common.{take}
use Rattle.omf_finding.proofs.ShownLaws.{HasShown}
use Rattle.omf_finding.proofs.nearing.Indexed.tried.Given as goal

-- the addresses of the intervals so far
abbrev pub invariant-loop-interval : goal.invariant-loop-interval
invariant-loop-interval l = HasShown l.self.program.now.bytes.items l.self.program.now.base (take l.interval-index l.intervals) l.addresses.items
