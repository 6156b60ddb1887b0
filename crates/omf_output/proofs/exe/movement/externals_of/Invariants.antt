use Rattle.std.proofs.Common.{◌≡◌, ◌++◌, ◌+◌, ◌-◌, length}
use Rattle.std.specs.Prelude.{map}
use Rattle.std.specs.List.{range_with_len}
use Rattle.omf_check.specs.Module.{records_in}
use Rattle.omf_check.specs.Tables.{externals}
use Rattle.omf_check.specs.WellFormed.{recs}
use Rattle.omf_placement.specs.Weak.{weak_pairs}
use Rattle.omf_output.specs.Inner.Referred.{linked_externals, linked_moving}
use Rattle.omf_output.proofs.exe.movement.externals_of.Given as goal

-- how the externals so far move, and those that are left
abbrev pub invariant-loop-before : goal.invariant-loop-before
invariant-loop-before l = let m = recs (records_in l.«module».bytes) in record {
  so_far : l.moving.items ++ map (linked_moving l.bases l.linkage.links l.number (weak_pairs m)) (range_with_len (l.before + 1) (length (externals m) - l.before)) ≡ linked_externals l.bases l.linkage.links (l.number, m);
  end : l.before-end ≡ length (externals m);
}
