use Rattle.std.proofs.Common.{◌≡◌, ◌++◌, drop, length}
use Rattle.std.specs.Prelude.{map}
use Rattle.omf_check.specs.Module.{records_in}
use Rattle.omf_check.specs.Tables.{segments}
use Rattle.omf_check.specs.WellFormed.{recs}
use Rattle.omf_output.specs.Exe.Based.{is_movable, segments_moving}
use Rattle.omf_output.proofs.exe.groups.segments_moving.Given as goal

-- the flags so far, and those of the segments that are left
abbrev pub invariant-loop-before : goal.invariant-loop-before
invariant-loop-before l = let m = recs (records_in l.«module».bytes) in record {
  flags : l.moving.items ++ map (λ s. is_movable s.absolute) (drop l.before (segments m)) ≡ segments_moving m;
  end : l.before-end ≡ length (segments m);
}
