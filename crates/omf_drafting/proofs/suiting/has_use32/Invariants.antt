use Rattle.std.proofs.Common.{◌≡◌, drop, length}
use Rattle.std.specs.List.{list_any}
use Rattle.omf_check.specs.Module.{records_in}
use Rattle.omf_check.specs.Tables.{attributes, segments}
use Rattle.omf_check.specs.WellFormed.{recs}
use Rattle.omf_records.specs.Values.{is_use32}
use Rattle.omf_drafting.specs.Suiting.{has_use32}
use Rattle.omf_drafting.proofs.suiting.has_use32.Given as goal

-- the segments that are left decide
abbrev pub invariant-loop-before : goal.invariant-loop-before
invariant-loop-before l = let m = recs (records_in l.«module».bytes) in record {
  left : list_any is_use32 (drop l.before (attributes m)) ≡ has_use32 m;
  end : l.before-end ≡ length (segments m);
}
