use Rattle.std.proofs.Common.{◌≡◌, ◌++◌, drop, length}
use Rattle.std.specs.Prelude.{map}
use Rattle.std.specs.List.{zip, enumerate_from}
use Rattle.omf_check.specs.Module.{records_in}
use Rattle.omf_check.specs.Tables.{attributes, segments}
use Rattle.omf_check.specs.WellFormed.{recs}
use Rattle.omf_layout.specs.Several.Portions.{classed, portions_in, with_names}
use Rattle.omf_layout.proofs.several.portion.add_portions.Given as goal

-- the segments so far, and those that are left
abbrev pub invariant-loop-before : goal.invariant-loop-before
invariant-loop-before l = let m = recs (records_in l.«module».bytes) in record {
  added : map with_names l.portions.items ++ map (classed m l.number) (drop l.before (enumerate_from 1 (zip (segments m) (attributes m)))) ≡ map with_names l.fn.portions.items ++ portions_in (l.number, m);
  end : l.before-end ≡ length (segments m);
}
