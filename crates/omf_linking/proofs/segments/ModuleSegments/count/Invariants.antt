use Rattle.std.proofs.Common.{◌≡◌, ◌+◌, ◌*◌, ◌≤◌, length, drop}
use Rattle.std.specs.Prelude.{flat_map}
use Rattle.std.specs.List.{enumerate_from}
use Rattle.omf_placement.specs.Derive.{placed_modules}
use Rattle.omf_linking.specs.Segments.{all_segments, module_segments, with_images}
use Rattle.omf_linking.proofs.segments.ModuleSegments.count.Given as goal

-- the segments of the modules so far, and those that are left
abbrev pub invariant-loop-module : goal.invariant-loop-module
invariant-loop-module l = let ms = with_images (placed_modules l.self.modules.now l.self.placements.now) l.self.relocated.now in record {
  counted : l.count + length (flat_map module_segments (enumerate_from l.module-index (drop l.module-index ms))) ≡ length (all_segments ms);
  few : l.count ≤ 32767 * l.module-index;
}
