use Rattle.std.specs.Prelude.{string_bytes}
use Rattle.omf_check.specs.Module.{records_in}
use Rattle.omf_check.specs.Tables.{segments}
use Rattle.omf_check.specs.WellFormed.{recs}
use Rattle.omf_map.specs.MapText.{segment_line}
use Rattle.omf_placement.proofs.StepLaws.{ArePrinted}
use Rattle.omf_map.proofs.listing.print_segments.Given as goal

-- the lines so far
abbrev pub invariant-loop-before : goal.invariant-loop-before
invariant-loop-before l = let m = recs (records_in l.«module».bytes) in ArePrinted (segment_line l.number (m, l.addresses)) (segments m) l.before (string_bytes l.fn.text) (string_bytes l.text)
