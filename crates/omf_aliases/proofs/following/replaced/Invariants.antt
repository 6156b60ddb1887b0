use Rattle.std.proofs.Common.{◌≡◌, ◌++◌, length}
use Rattle.std.specs.Vec.Iter.{into_iter_items}
use Rattle.omf_aliases.specs.Inner.Aliases.{replaced}
use Rattle.omf_aliases.proofs.following.replaced.Given as goal

-- the modules so far, and those that are left
abbrev pub invariant-loop-module : goal.invariant-loop-module
invariant-loop-module l = record {
  placed : l.all.items ++ replaced (into_iter_items l.module-iterator) (into_iter_items l.left) ≡ replaced l.fn.modules.items l.fn.replacements.items;
  size : length (into_iter_items l.left) ≡ length (into_iter_items l.module-iterator);
}
