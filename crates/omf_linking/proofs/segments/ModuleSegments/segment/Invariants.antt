use Rattle.std.proofs.Common.{◌≡◌, drop}
use Rattle.std.specs.Prelude.{flat_map, slice_get}
use Rattle.std.specs.List.{enumerate_from}
use Rattle.omf_placement.specs.Derive.{placed_modules}
use Rattle.omf_linking.specs.Segments.{all_segments, module_segments, with_images}
use Rattle.omf_linking.proofs.segments.ModuleSegments.segment.Given as goal

-- the segment is that of the modules that are left with what is left of its number
abbrev pub invariant-loop-j : goal.invariant-loop-j
invariant-loop-j l = let ms = with_images (placed_modules l.self.modules.now l.self.placements.now) l.self.relocated.now in
    slice_get (flat_map module_segments (enumerate_from l.j (drop l.j ms))) l.left ≡ slice_get (all_segments ms) l.n
