use Rattle.std.proofs.Common.{◌≡◌, ◌++◌, length}
use Rattle.omf_dump.specs.Gives.{externals_of, item_parts}
use Rattle.omf_dump.proofs.giving.push_externals.Given as goal

-- the names that are kept, and those of the items that are left, are all
abbrev pub invariant-loop-left : goal.invariant-loop-left
invariant-loop-left l = record {
  names : l.tables.names ≡ l.fn.tables.names;
  segments : l.tables.segments ≡ l.fn.tables.segments;
  groups : l.tables.groups ≡ l.fn.tables.groups;
  externals : l.tables.externals ++ externals_of l.fn.tables.names l.width l.kind (item_parts l.width l.kind 0 l.left) ≡ l.fn.tables.externals ++ externals_of l.fn.tables.names l.width l.kind (item_parts l.width l.kind 0 l.body);
}

abbrev pub decreases-loop-left : goal.decreases-loop-left
decreases-loop-left l = length l.left
