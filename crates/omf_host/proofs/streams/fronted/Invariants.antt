use Rattle.std.proofs.Common.{◌≡◌, ◌++◌, length, true}
use Rattle.omf_host.specs.Streams.{fronted}
use Rattle.omf_host.proofs.streams.fronted.Given as goal

-- the lines so far, and those of the rest
abbrev pub invariant-loop-rest : goal.invariant-loop-rest
invariant-loop-rest l = l.lines.items ++ fronted l.words l.rest l.begins ≡ fronted l.words l.text true

abbrev pub decreases-loop-rest : goal.decreases-loop-rest
decreases-loop-rest l = length l.rest
