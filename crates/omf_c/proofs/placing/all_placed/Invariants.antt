use Rattle.std.proofs.Common.{◌≡◌, map, take}
use Rattle.omf_c.specs.Placed.{placed}
use Rattle.omf_c.proofs.placing.all_placed.Given as goal

-- those of the rows so far
abbrev pub invariant-loop-row : goal.invariant-loop-row
invariant-loop-row l = l.places.items ≡ map placed (take l.row-index l.rows)
