use Rattle.std.proofs.Common.{◌≡◌, List, ◌++◌, length}
use Rattle.std.specs.List.{AllZip}
use Rattle.std.specs.Vec.Iter.{into_iter_items, into_iter_len}
use Rattle.omf_check.specs.Module.{Module}
use Rattle.omf_linking.specs.Folded.{IsFolded}
use Rattle.omf_linking.proofs.folding.modules.folded_all.Given as goal

-- the modules so far were folded, and the others are left
abbrev pub invariant-loop-module : goal.invariant-loop-module
invariant-loop-module l = record {
  size : into_iter_len l.module-iterator ≡ length (into_iter_items l.module-iterator);
  held : (later : List Module) → AllZip IsFolded (into_iter_items l.module-iterator) later → AllZip IsFolded l.fn.modules.items (l.all.items ++ later);
}
