use Rattle.std.proofs.Common.{length}
use Rattle.omf_check.specs.Module.{records_in}
use Rattle.omf_check.specs.WellFormed.{recs}
use Rattle.omf_reloc.proofs.WalkedLaws.{IsGoing}
use Rattle.omf_reloc.proofs.relocating.walked.Given as goal

-- the pieces so far are walked over, and the first fault of those to come is the first of all
abbrev pub invariant-pieces : goal.invariant-pieces
invariant-pieces l = IsGoing l.initial.walk.image l.placement (recs (records_in l.module.bytes)) l.walk l.pieces

abbrev pub decreases-pieces : goal.decreases-pieces
decreases-pieces l = length l.pieces
