use Rattle.std.proofs.Common.{◌≡◌, ◌++◌, drop}
use Rattle.omf_linking.specs.Inner.Laying.{extents_in}
use Rattle.omf_linking.proofs.space.memory.extents_of.Given as goal

-- the places so far, and those of the stretches that are left
abbrev pub invariant-loop-stretch : goal.invariant-loop-stretch
invariant-loop-stretch l = l.extents.items ++ extents_in (drop l.stretch-index l.stretches) ≡ extents_in l.stretches
