use Rattle.std.proofs.Common.{◌≡◌, ◌++◌, drop, length, map}
use Rattle.std.specs.List.{enumerate_from}
use Rattle.omf_check.specs.Module.{records_in}
use Rattle.omf_check.specs.Tables.{attributes, segments}
use Rattle.omf_check.specs.WellFormed.{recs}
use Rattle.omf_layout.specs.Wants.{alignment_in, alignments}
use Rattle.omf_layout.proofs.wants.alignments_of.Given as goal

-- those of the segments so far, and those that are left
abbrev pub invariant-loop-before : goal.invariant-loop-before
invariant-loop-before l = let m = recs (records_in l.«module».bytes) in record {
  added : l.alignments.items ++ map (λ x. alignment_in m x.0 x.1) (drop l.before (enumerate_from 1 (attributes m))) ≡ alignments m;
  end : l.before-end ≡ length (segments m);
}
