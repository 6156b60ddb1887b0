use Rattle.omf_externals.specs.Names.{names_of, IsNameTable}
use Rattle.omf_placement.proofs.Filling.{IsFilled}
use Rattle.omf_externals.proofs.names.NameTable.add_items.Given as goal

-- the names so far are in the table
abbrev pub invariant-loop-public : goal.invariant-loop-public
invariant-loop-public l = IsFilled IsNameTable l.fn.self l.self (names_of l.public-iterator) (names_of l.fn.items)
