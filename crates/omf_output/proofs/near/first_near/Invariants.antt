use Rattle.std.proofs.Common.{◌≡◌, drop}
use Rattle.omf_placement.specs.Derive.{placed_modules}
use Rattle.omf_output.specs.Near.{first_near, near_from}
use Rattle.omf_output.proofs.near.first_near.Given as goal

-- the first in the modules that are left is that of all
abbrev pub invariant-loop-j : goal.invariant-loop-j
invariant-loop-j l = near_from (placed_modules l.modules l.placements) l.j (drop l.j l.modules) (drop l.j l.placements) ≡ first_near l.modules l.placements
