use Rattle.std.proofs.Common.{◌≡◌, length}
use Rattle.std.specs.List.{list_all}
use Rattle.omf_dump.specs.Gives.{is_item_known, item_parts}
use Rattle.omf_dump.proofs.giving.are_known.Given as goal

-- what is left decides
abbrev pub invariant-loop-left : goal.invariant-loop-left
invariant-loop-left l = record {
  same : list_all (is_item_known l.names l.width l.kind) (item_parts l.width l.kind 0 l.left) ≡ list_all (is_item_known l.names l.width l.kind) (item_parts l.width l.kind 0 l.body);
}

abbrev pub decreases-loop-left : goal.decreases-loop-left
decreases-loop-left l = length l.left
