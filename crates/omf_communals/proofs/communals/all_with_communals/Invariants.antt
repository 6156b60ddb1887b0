use Rattle.std.proofs.Common.{◌≡◌, length}
use Rattle.std.specs.Vec.Iter.{into_iter_items, into_iter_len}
use Rattle.omf_communals.proofs.ModuleLaws.{AreSoFar}
use Rattle.omf_communals.proofs.communals.all_with_communals.Given as goal

-- the modules so far are with their communals, and the others are left
abbrev pub invariant-loop-module : goal.invariant-loop-module
invariant-loop-module l = record {
  size : into_iter_len l.module-iterator ≡ length (into_iter_items l.module-iterator);
  so_far : AreSoFar l.fn.modules.items (into_iter_items l.module-iterator) l.all.items;
}
