use Rattle.omf_placement.specs.Inner.Linkage.{IsSourceTable, sources_at}
use Rattle.omf_placement.proofs.Filling.{IsFilled}
use Rattle.omf_placement.proofs.several.sources.SourceTable.add_items.Given as goal

-- the publics so far are in the table
abbrev pub invariant-loop-public : goal.invariant-loop-public
invariant-loop-public l = IsFilled IsSourceTable l.fn.self l.self (sources_at l.base l.public-iterator) (sources_at l.base l.fn.items)
