use Rattle.omf_explicit.specs.Origins.{IsAfter}
use Rattle.omf_explicit.proofs.origin.record_at.Given as goal

-- this many records are passed
abbrev pub invariant-loop-passed : goal.invariant-loop-passed
invariant-loop-passed l = IsAfter l.bytes l._passed l.rest
