use Rattle.omf_check.specs.Module.{recs_of}
use Rattle.omf_trimming.proofs.ChoiceLaws.{IsWalked}
use Rattle.omf_trimming.proofs.choice.marked.instances.Given as goal

-- the instances so far and those to come are all
abbrev pub invariant-loop-place : goal.invariant-loop-place
invariant-loop-place l = IsWalked (recs_of l.«module».bytes) l.found.items l.segments l.begun l.place-iterator
