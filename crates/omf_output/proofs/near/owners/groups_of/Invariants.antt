use Rattle.std.proofs.Common.{◌≡◌, ◌+◌, drop, length}
use Rattle.std.specs.Prelude.{flat_map}
use Rattle.std.specs.List.{enumerate_from}
use Rattle.omf_check.specs.Module.{records_in}
use Rattle.omf_check.specs.Tables.{groups}
use Rattle.omf_check.specs.WellFormed.{recs}
use Rattle.omf_output.specs.Inner.Owners.{IsTable}
use Rattle.omf_output.specs.Near.{members_of}
use Rattle.omf_output.proofs.near.owners.groups_of.Given as goal

-- the members of the groups that are left are still to be taken
abbrev pub invariant-loop-before : goal.invariant-loop-before
invariant-loop-before l = let m = recs (records_in l.module.bytes) in record {
  table : IsTable m (flat_map members_of (enumerate_from (l.before + 1) (drop l.before (groups m)))) l.table.items;
  end : l.before-end ≡ length (groups m);
}
