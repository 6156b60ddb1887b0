use Rattle.std.proofs.Common.{◌≡◌, [], map, drop}
use Rattle.omf_samples.specs.Hex.{rows_after}
use Rattle.omf_samples.proofs.hex.joined.Given as goal

-- the bytes so far, and then those of the rows that are left, are those of all rows
abbrev pub invariant-loop-row : goal.invariant-loop-row
invariant-loop-row l = rows_after l.bytes.items (map (λ row. row.now) (drop l.row-index l.rows)) ≡ rows_after [] (map (λ row. row.now) l.rows)
