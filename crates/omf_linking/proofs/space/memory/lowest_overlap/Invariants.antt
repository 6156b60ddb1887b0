use Rattle.std.proofs.Common.{take}
use Rattle.omf_linking.proofs.SpaceLaws.LowestLaws.{IsLowestOf}
use Rattle.omf_linking.proofs.space.memory.lowest_overlap.Given as goal

-- the lowest overlap at the first addresses of the stretches so far
abbrev pub invariant-loop-stretch : goal.invariant-loop-stretch
invariant-loop-stretch l = IsLowestOf l.stretches (take l.stretch-index l.stretches) l.lowest
