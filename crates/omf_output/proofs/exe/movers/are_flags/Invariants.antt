use Rattle.std.proofs.Common.{◌≡◌, drop, length}
use Rattle.omf_check.specs.Module.{records_in}
use Rattle.omf_check.specs.Tables.{segments}
use Rattle.omf_check.specs.WellFormed.{recs}
use Rattle.omf_output.specs.Exe.Based.{same_flags, segments_moving}
use Rattle.omf_output.proofs.exe.movers.are_flags.Given as goal

-- the flags left are those of the segments to come exactly if all are those of all
abbrev pub invariant-loop-before : goal.invariant-loop-before
invariant-loop-before l = let m = recs (records_in l.«module».bytes) in record {
  left : same_flags (drop l.before l.flags) (drop l.before (segments_moving m)) ≡ same_flags l.flags (segments_moving m);
  end : l.before-end ≡ length (segments m);
}
