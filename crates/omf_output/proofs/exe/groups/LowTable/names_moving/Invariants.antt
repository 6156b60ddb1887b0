use Rattle.std.proofs.Common.{◌≡◌, ◌++◌, List, drop, length}
use Rattle.std.specs.Prelude.{map}
use Rattle.omf_check.specs.Module.{records_in}
use Rattle.omf_check.specs.Tables.{groups}
use Rattle.omf_check.specs.WellFormed.{recs}
use Rattle.omf_output.specs.Exe.Derived.{IsLowTable, Named, name_at, name_moves, names_moving}
use Rattle.omf_output.proofs.exe.groups.LowTable.names_moving.Given as goal

-- the flags so far, and those of the groups that are left
abbrev pub invariant-loop-before : goal.invariant-loop-before
invariant-loop-before l = let m = recs (records_in l.«module».bytes) in record {
  flags : (ls : List Named) → IsLowTable l.self.by_name ls → l.moving.items ++ map (λ g. name_moves ls (name_at m g.name.item)) (drop l.before (groups m)) ≡ names_moving ls m;
  end : l.before-end ≡ length (groups m);
}
