use Rattle.std.proofs.Common.{◌≡◌, ◌++◌, List, drop, length}
use Rattle.std.specs.Prelude.{map, zip}
use Rattle.std.specs.Vec.Iter.{into_iter_items}
use Rattle.omf_placement.specs.declared.frame.Placed.{Placed}
use Rattle.omf_layout.specs.Several.Placing.{IsLowTable, with_frames}
use Rattle.omf_layout.specs.Several.Portions.{Named}
use Rattle.omf_check.specs.Module.{typed_modules}
use Rattle.omf_layout.proofs.several.placing.placements_of.Given as goal

-- the places so far, and those that are left
abbrev pub invariant-loop-module : goal.invariant-loop-module
invariant-loop-module l = record {
  placed : (ls : List (Named Placed)) → IsLowTable l.table.by_name ls
      → l.placements.items ++ map (with_frames l.frames ls) (zip (typed_modules (drop l.module-index l.modules)) (map (λ s. s.items) (into_iter_items l.left))) ≡ map (with_frames l.frames ls) (zip (typed_modules l.modules) (map (λ s. s.items) l.fn.segments.items));
  size : length (into_iter_items l.left) ≡ length (drop l.module-index l.modules);
}
