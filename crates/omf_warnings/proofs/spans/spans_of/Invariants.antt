use Rattle.std.proofs.Common.{◌≡◌, ◌++◌, drop}
use Rattle.std.specs.Prelude.{map, flat_map}
use Rattle.std.specs.List.{enumerate_from}
use Rattle.omf_placement.specs.Derive.{placed_modules}
use Rattle.omf_warnings.specs.Lying.{lyings, lyings_in, seen}
use Rattle.omf_warnings.proofs.spans.spans_of.Given as goal

-- the segments of the modules so far, and of those that are left
abbrev pub invariant-loop-j : goal.invariant-loop-j
invariant-loop-j l = let ms = placed_modules l.modules l.placements in map seen l.spans.items ++ flat_map lyings_in (enumerate_from l.j (drop l.j ms)) ≡ lyings ms
