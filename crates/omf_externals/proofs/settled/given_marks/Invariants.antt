use Rattle.std.proofs.Common.{◌≡◌, ◌+◌, ◌++◌, drop, length, map}
use Rattle.std.specs.List.{enumerate_from}
use Rattle.omf_check.specs.Module.{records_in}
use Rattle.omf_check.specs.Tables.{externals}
use Rattle.omf_check.specs.WellFormed.{recs}
use Rattle.omf_placement.specs.Derive.{named_externals}
use Rattle.omf_externals.specs.Unresolved.{given_marks, is_given}
use Rattle.omf_externals.proofs.settled.given_marks.Given as goal

-- the marks so far, and those of the externals that are left
abbrev pub invariant-loop-before : goal.invariant-loop-before
invariant-loop-before l = let m = recs (records_in l.«module».bytes) in record {
  end : l.before-end ≡ length (externals m);
  marks : l.marks.items ++ map (λ e. is_given l.by_hand l.number e.0) (enumerate_from (l.before + 1) (drop l.before (named_externals m))) ≡ given_marks l.by_hand (l.number, m);
}
