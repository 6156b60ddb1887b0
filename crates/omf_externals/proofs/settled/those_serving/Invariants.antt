use Rattle.std.proofs.Common.{◌≡◌, ◌++◌, List, drop}
use Rattle.std.specs.Prelude.{filter}
use Rattle.omf_check.specs.Module.{recs_of}
use Rattle.omf_externals.specs.Unresolved.{IsByName, Row, rows_seen, serves}
use Rattle.omf_externals.proofs.settled.those_serving.Given as goal

-- those so far, and those of the pairs that are left
abbrev pub invariant-loop-pair : goal.invariant-loop-pair
invariant-loop-pair l = (rows : List Row) → IsByName l.publics.spots rows
    → let f = serves (rows_seen rows (l.number, recs_of l.«module».bytes)) l.given (recs_of l.«module».bytes) in l.serving.items ++ filter f (drop l.pair-index l.pairs) ≡ filter f l.pairs
