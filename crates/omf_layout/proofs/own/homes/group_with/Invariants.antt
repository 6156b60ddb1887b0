use Rattle.std.proofs.Common.{◌≡◌, drop, length}
use Rattle.std.specs.Prelude.{find}
use Rattle.omf_check.specs.Module.{records_in}
use Rattle.omf_check.specs.Tables.{groups}
use Rattle.omf_check.specs.WellFormed.{recs}
use Rattle.omf_layout.specs.Own.Homes.{has_part}
use Rattle.omf_layout.proofs.own.homes.group_with.Given as goal

-- none so far, so the first of those that are left
abbrev pub invariant-loop-before : goal.invariant-loop-before
invariant-loop-before l = let m = recs (records_in l.«module».bytes) in record {
  same : find (has_part m l.key) (drop l.before (groups m)) ≡ find (has_part m l.key) (groups m);
  end : l.before-end ≡ length (groups m);
}
