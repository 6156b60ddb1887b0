use Rattle.std.specs.Prelude.{string_bytes}
use Rattle.omf_check.specs.Module.{records_in}
use Rattle.omf_check.specs.Tables.{externals}
use Rattle.omf_check.specs.WellFormed.{recs}
use Rattle.omf_map.specs.MapText.{external_line}
use Rattle.omf_placement.proofs.StepLaws.{ArePrinted}
use Rattle.omf_map.proofs.listing.print_externals.Given as goal

-- the lines so far
abbrev pub invariant-loop-before : goal.invariant-loop-before
invariant-loop-before l = let m = recs (records_in l.«module».bytes) in ArePrinted (external_line l.number (m, l.addresses)) (externals m) l.before (string_bytes l.fn.text) (string_bytes l.text)
