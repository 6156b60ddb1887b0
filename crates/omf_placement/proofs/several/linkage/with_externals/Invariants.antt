use Rattle.std.proofs.Common.{◌≡◌, ◌++◌, length}
use Rattle.std.specs.Prelude.{map, zip}
use Rattle.std.specs.Vec.Iter.{into_iter_items}
use Rattle.omf_placement.specs.Inner.Deriving.{with_own}
use Rattle.omf_placement.proofs.several.linkage.with_externals.Given as goal

-- the placements so far, and those that are left
abbrev pub invariant-loop-place : goal.invariant-loop-place
invariant-loop-place l = record {
  placed : l.placements.items ++ map with_own (zip (into_iter_items l.place-iterator) (map (λ e. e.items) (into_iter_items l.left))) ≡ map with_own (zip l.fn.places.items (map (λ e. e.items) l.fn.externals.items));
  size : length (into_iter_items l.left) ≡ length (into_iter_items l.place-iterator);
}
