use Rattle.std.proofs.Common.{◌≡◌, ◌≤◌, ◌^◌, [], drop, length}
use Rattle.std.specs.List.{zip}
use Rattle.omf_check.specs.Module.{records_in}
use Rattle.omf_check.specs.Tables.{segments}
use Rattle.omf_check.specs.WellFormed.{recs}
use Rattle.omf_layout.specs.Layout.{and_then_more, all_laid, segment_laid, segments_laid}
use Rattle.omf_layout.specs.Wants.{alignments}
use Rattle.omf_layout.proofs.laying.lay_segments.Given as goal

-- the segments so far are laid, and the others are laid after them
abbrev pub invariant-loop-before : goal.invariant-loop-before
invariant-loop-before l = let m = recs (records_in l.«module».bytes) in record {
  laid : and_then_more l.placement.segments (all_laid (segment_laid l.options.frames) l.free (drop l.before (zip (segments m) (alignments m)))) ≡ segments_laid l.options m;
  end : l.before-end ≡ length (segments m);
  groups : l.placement.groups ≡ [];
  externals : l.placement.externals ≡ [];
  low : l.free ≤ 2 ^ 32;
  from : l.options.base ≤ l.free;
}
