use Rattle.std.proofs.Common.{◌≡◌, ◌++◌, length}
use Rattle.std.specs.Prelude.{map, zip}
use Rattle.std.specs.Vec.Iter.{into_iter_items}
use Rattle.omf_output.specs.Inner.Referred.{completed}
use Rattle.omf_output.proofs.exe.movement.with_externals.Given as goal

-- the movers so far, and those of the modules that are left
abbrev pub invariant-loop-of_module : goal.invariant-loop-of_module
invariant-loop-of_module l = record {
  so_far : l.movers.items ++ map completed (zip (into_iter_items l.of_module-iterator) (map (λ e. e.items) (into_iter_items l.left))) ≡ map completed (zip l.fn.bases.items (map (λ e. e.items) l.fn.externals.items));
  size : length (into_iter_items l.left) ≡ length (into_iter_items l.of_module-iterator);
}
