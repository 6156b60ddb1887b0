use Rattle.std.specs.Prelude.{string_bytes}
use Rattle.omf_placement.specs.Derive.{placed_modules}
use Rattle.omf_map.specs.Far.{group_lines}
use Rattle.omf_placement.proofs.StepLaws.{ArePrinted}
use Rattle.omf_map.proofs.far.print_all_groups.Given as goal

-- the lines of the modules so far
abbrev pub invariant-loop-j : goal.invariant-loop-j
invariant-loop-j l = ArePrinted group_lines (placed_modules l.modules l.placements) l.j (string_bytes l.fn.text) (string_bytes l.text)
