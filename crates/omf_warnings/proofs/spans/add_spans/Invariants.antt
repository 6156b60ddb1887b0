use Rattle.std.proofs.Common.{◌≡◌, ◌++◌, drop, length}
use Rattle.std.specs.Prelude.{map}
use Rattle.std.specs.List.{zip, enumerate_from}
use Rattle.omf_check.specs.Module.{records_in}
use Rattle.omf_check.specs.Tables.{attributes, segments}
use Rattle.omf_check.specs.WellFormed.{recs}
use Rattle.omf_warnings.specs.Lying.{lying, lyings_in, seen}
use Rattle.omf_warnings.proofs.spans.add_spans.Given as goal

-- the segments so far, and those that are left
abbrev pub invariant-loop-before : goal.invariant-loop-before
invariant-loop-before l = let m = recs (records_in l.«module».bytes) in record {
  added : map seen l.spans.items ++ map (lying l.number (m, l.placement)) (drop l.before (enumerate_from 1 (zip (segments m) (attributes m)))) ≡ map seen l.fn.spans.items ++ lyings_in (l.number, (m, l.placement));
  end : l.before-end ≡ length (segments m);
}
