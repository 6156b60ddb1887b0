use Rattle.omf_check.specs.Module.{records_in}
use Rattle.omf_check.specs.WellFormed.{recs}
use Rattle.omf_reloc.proofs.FarLaws.{without_places}
use Rattle.omf_finding.proofs.WalkLaws.{IsWalked}
use Rattle.omf_finding.proofs.patterning.marked_pattern.Given as goal

-- the pieces so far are walked over
abbrev pub invariant-loop-piece : goal.invariant-loop-piece
invariant-loop-piece l = IsWalked (recs (records_in l.module.bytes)) l.walk (without_places l.piece-iterator)
