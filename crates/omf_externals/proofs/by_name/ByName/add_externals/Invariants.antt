use Rattle.std.proofs.Common.{◌≡◌, ◌+◌, drop, length}
use Rattle.std.specs.Prelude.{flat_map}
use Rattle.std.specs.List.{enumerate_from}
use Rattle.omf_check.specs.Module.{records_in}
use Rattle.omf_check.specs.Tables.{externals}
use Rattle.omf_check.specs.WellFormed.{recs}
use Rattle.omf_placement.specs.Derive.{named_externals}
use Rattle.omf_externals.specs.Unresolved.{IsByName, asked_row, asked_rows}
use Rattle.omf_placement.proofs.Filling.{IsFilled}
use Rattle.omf_externals.proofs.by_name.ByName.add_externals.Given as goal

-- the externals so far are in the table
abbrev pub invariant-loop-before : goal.invariant-loop-before
invariant-loop-before l = let m = recs (records_in l.«module».bytes) in record {
  end : l.before-end ≡ length (externals m);
  filled : IsFilled IsByName l.fn.self.spots l.self.spots (flat_map (asked_row l.local l.settled l.number) (enumerate_from (l.before + 1) (drop l.before (named_externals m)))) (asked_rows l.local l.settled (l.number, m));
}
