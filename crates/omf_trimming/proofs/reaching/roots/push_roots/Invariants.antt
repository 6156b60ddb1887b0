use Rattle.std.proofs.Common.{◌≡◌, ◌+◌, ◌++◌, drop}
use Rattle.std.specs.Prelude.{flat_map}
use Rattle.std.specs.List.{enumerate_from}
use Rattle.omf_check.specs.Module.{records_in}
use Rattle.omf_check.specs.Tables.{names, segments}
use Rattle.omf_check.specs.WellFormed.{recs}
use Rattle.omf_trimming.specs.Reaching.{roots_of}
use Rattle.omf_trimming.specs.Inner.Reaching.{root_if}
use Rattle.omf_trimming.proofs.reaching.roots.push_roots.Given as goal

-- the segments so far and those to come are all
abbrev pub invariant-loop-before : goal.invariant-loop-before
invariant-loop-before l =
    let m = recs (records_in l.checked.bytes) in
    l.found.items ++ flat_map (root_if l.left_out (names m) l.«module») (enumerate_from (l.before + 1) (drop l.before (segments m))) ≡ l.fn.found.items ++ roots_of l.left_out l.«module» m
