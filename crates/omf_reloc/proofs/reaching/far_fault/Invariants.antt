use Rattle.std.proofs.Common.{◌≡◌}
use Rattle.std.specs.Prelude.{slice_get}
use Rattle.omf_check.specs.Module.{records_in}
use Rattle.omf_check.specs.WellFormed.{recs}
use Rattle.omf_reloc.specs.Reach.{far_faults}
use Rattle.omf_reloc.specs.Inner.ReachSteps.{pieces_far}
use Rattle.omf_reloc.proofs.reaching.far_fault.Given as goal

-- the first fault of the pieces to come is the first of all
abbrev pub invariant-loop-place : goal.invariant-loop-place
invariant-loop-place l = slice_get (pieces_far l.placement l.last l.place-iterator) 0 ≡ slice_get (far_faults l.placement (recs (records_in l.module.bytes))) 0
