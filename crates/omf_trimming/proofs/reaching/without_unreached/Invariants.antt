use Rattle.std.proofs.Common.{◌≡◌, length}
use Rattle.std.specs.Prelude.{map}
use Rattle.std.specs.Vec.Iter.{into_iter_items, into_iter_len}
use Rattle.omf_trimming.proofs.UnreachedLaws.{AreLeftSoFar}
use Rattle.omf_trimming.proofs.reaching.without_unreached.Given as goal

-- the modules so far are without what is not reached, and the others are left
abbrev pub invariant-loop-module : goal.invariant-loop-module
invariant-loop-module l = record {
  size : into_iter_len l.module-iterator ≡ length (into_iter_items l.module-iterator);
  so_far : AreLeftSoFar l.fn.publics l.fn.left_out l.fn.modules.items (into_iter_items l.module-iterator) (map (λ gone. gone.items) (into_iter_items l.left)) l.all.items;
}
