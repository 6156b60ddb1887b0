use Rattle.std.proofs.Common.{take}
use Rattle.omf_output.specs.Inner.Referred.{IsDefaultTable, single_at}
use Rattle.omf_output.proofs.exe.referred.DefaultTable.of.Given as goal

-- the pairs so far are in the table
abbrev pub invariant-loop-pair : goal.invariant-loop-pair
invariant-loop-pair l = IsDefaultTable l.table.by_external (single_at l.bases l.linkage.links l.number) (take l.pair-index l.pair-items)
