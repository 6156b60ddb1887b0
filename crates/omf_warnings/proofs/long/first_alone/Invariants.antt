use Rattle.std.proofs.Common.{◌≡◌, ℕ, drop}
use Rattle.std.specs.List.{enumerate_from}
use Rattle.omf_placement.specs.Derive.{PlacedModule, placed_modules}
use Rattle.omf_warnings.specs.Long.{first_alone, long_in_module}
use Rattle.omf_warnings.specs.Wide.{first_some}
use Rattle.omf_warnings.proofs.long.first_alone.Given as goal

-- the first in the modules that are left is that of all
abbrev pub invariant-loop-j : goal.invariant-loop-j
invariant-loop-j l = let ms = placed_modules l.modules l.placements in first_some (λ (x : ℕ × PlacedModule). long_in_module x.0 x.1) (enumerate_from l.j (drop l.j ms)) ≡ first_alone ms
