use Rattle.std.proofs.Common.{◌≡◌, length}
use Rattle.std.specs.Prelude.{map}
use Rattle.std.specs.Vec.Iter.{into_iter_items, into_iter_len}
use Rattle.omf_trimming.proofs.ChoiceAllLaws.{AreChosenSoFar}
use Rattle.omf_trimming.proofs.choice.chosen.Given as goal

-- the modules so far are chosen, and the others are left
abbrev pub invariant-loop-module : goal.invariant-loop-module
invariant-loop-module l = record {
  size : into_iter_len l.module-iterator ≡ length (into_iter_items l.module-iterator);
  so_far : AreChosenSoFar l.fn.modules.items (into_iter_items l.module-iterator) (map (λ gone. gone.items) (into_iter_items l.left)) l.all.items;
}
