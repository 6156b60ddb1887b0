use Rattle.omf_lowering.specs.Inner.State.{IsOpen}
use Rattle.omf_lowering.proofs.lowering.read_into.Given as goal

abbrev pub invariant-loop-number : goal.invariant-loop-number
invariant-loop-number l = IsOpen l.bytes l.rest l.number l.work
