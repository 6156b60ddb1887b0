use Rattle.std.proofs.Common.{take}
use Rattle.omf_aliases.specs.Inner.Aliases.{IsOwnTable}
use Rattle.omf_aliases.proofs.own.OwnDefaults.of.Given as goal

-- the pairs so far are in the table
abbrev pub invariant-loop-pair : goal.invariant-loop-pair
invariant-loop-pair l = IsOwnTable l.table.by_external (take l.pair-index l.pair-items)
