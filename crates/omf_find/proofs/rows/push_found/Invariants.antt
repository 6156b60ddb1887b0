use Rattle.std.specs.Prelude.{option_to_list}
use Rattle.omf_check.specs.Module.{records_in}
use Rattle.omf_check.specs.Tables.{segments}
use Rattle.omf_check.specs.WellFormed.{recs}
use Rattle.omf_find.specs.Rows.{segment_row}
use Rattle.omf_placement.proofs.StepLaws.{ArePrinted}
use Rattle.omf_find.proofs.rows.push_found.Given as goal

-- the rows so far
abbrev pub invariant-loop-before : goal.invariant-loop-before
invariant-loop-before l = ArePrinted (λ s. option_to_list (segment_row l.number l.found s)) (segments (recs (records_in l.«module».bytes))) l.before l.fn.rows.items l.rows.items
