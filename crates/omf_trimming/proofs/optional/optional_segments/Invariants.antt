use Rattle.std.proofs.Common.{◌≡◌, ◌+◌, ◌++◌, drop}
use Rattle.std.specs.Prelude.{flat_map}
use Rattle.std.specs.List.{enumerate_from}
use Rattle.omf_check.specs.Module.{records_in}
use Rattle.omf_check.specs.Tables.{names, segments}
use Rattle.omf_check.specs.WellFormed.{recs}
use Rattle.omf_trimming.specs.Reaching.{optional_segment, optional_segments}
use Rattle.omf_trimming.proofs.optional.optional_segments.Given as goal

-- the segments so far, and the segments that are left
abbrev pub invariant-loop-before : goal.invariant-loop-before
invariant-loop-before l =
    let m = recs (records_in l.«module».bytes) in
    l.found.items ++ flat_map (optional_segment l.left_out (names m)) (enumerate_from (l.before + 1) (drop l.before (segments m))) ≡ optional_segments l.left_out m
