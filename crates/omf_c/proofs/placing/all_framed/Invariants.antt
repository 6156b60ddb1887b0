use Rattle.std.proofs.Common.{◌≡◌, map, take}
use Rattle.omf_c.specs.Placed.{framed}
use Rattle.omf_c.proofs.placing.all_framed.Given as goal

-- those of the rows so far
abbrev pub invariant-loop-row : goal.invariant-loop-row
invariant-loop-row l = l.frames.items ≡ map framed (take l.row-index l.rows)
