use Rattle.std.proofs.Common.{take}
use Rattle.omf_aliases.specs.Inner.Aliases.{HasPairs}
use Rattle.omf_aliases.proofs.substitutes.SubstituteTable.add_pairs.Given as goal

-- the pairs so far are in the table
abbrev pub invariant-loop-pair : goal.invariant-loop-pair
invariant-loop-pair l = HasPairs l.fn.self l.self (take l.pair-index l.pairs)
