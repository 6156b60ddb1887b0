use Rattle.std.proofs.Common.{take}
use Rattle.omf_placement.specs.Inner.GivenTable.{IsGivenTable}
use Rattle.omf_placement.proofs.several.given.GivenTable.of.Given as goal

-- the entries so far are in the table
abbrev pub invariant-loop-entry : goal.invariant-loop-entry
invariant-loop-entry l = IsGivenTable l.by_external (take l.entry-index l.given)
