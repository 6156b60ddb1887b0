use Rattle.omf_externals.specs.Names.{names_of}
use Rattle.omf_externals.specs.Unresolved.{IsByName, rows_in}
use Rattle.omf_placement.proofs.Filling.{IsFilled}
use Rattle.omf_externals.proofs.by_name.ByName.add_items.Given as goal

-- the publics so far are in the table
abbrev pub invariant-loop-public : goal.invariant-loop-public
invariant-loop-public l = IsFilled IsByName l.fn.self.spots l.self.spots (rows_in l.number (names_of l.public-iterator)) (rows_in l.number (names_of l.fn.items))
