use Rattle.std.proofs.Common.{◌≡◌, drop}
use Rattle.std.specs.Prelude.{filter_map}
use Rattle.std.specs.List.{enumerate_from}
use Rattle.omf_placement.specs.Derive.{placed_modules}
use Rattle.omf_linking.specs.Faults.{far_by}
use Rattle.omf_linking.specs.Relocated.{far_modules, first_fault}
use Rattle.omf_linking.proofs.relocated.fault_of.Given as goal

-- none of the modules so far is far
abbrev pub invariant-loop-j : goal.invariant-loop-j
invariant-loop-j l = let ms = placed_modules l.modules l.placements in filter_map (far_by first_fault) (enumerate_from l.j (drop l.j ms)) ≡ far_modules ms
