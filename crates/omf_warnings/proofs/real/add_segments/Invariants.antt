use Rattle.std.proofs.Common.{◌≡◌, ◌+◌, ◌++◌, drop, length}
use Rattle.std.specs.Prelude.{filter_map}
use Rattle.std.specs.List.{enumerate_from}
use Rattle.omf_check.specs.Module.{records_in}
use Rattle.omf_check.specs.Tables.{segments}
use Rattle.omf_check.specs.WellFormed.{recs}
use Rattle.omf_placement.specs.Derive.{PlacedModule}
use Rattle.omf_warnings.specs.RealMode.{small_segment, segments_in}
use Rattle.omf_warnings.proofs.real.add_segments.Given as goal

-- the segments so far with those to come are all
abbrev pub invariant-loop-before : goal.invariant-loop-before
invariant-loop-before l = let m : PlacedModule = (recs (records_in l.module.bytes), l.placement) in record {
  left : l.frames.items ++ filter_map (small_segment l.number m) (enumerate_from (l.before + 1) (drop l.before (segments m.0))) ≡ l.fn.frames.items ++ segments_in l.number m;
  end : l.before-end ≡ length (segments m.0);
}
