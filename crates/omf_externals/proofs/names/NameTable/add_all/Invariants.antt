use Rattle.std.proofs.Common.{drop}
use Rattle.omf_externals.specs.Names.{IsNameTable}
use Rattle.omf_placement.proofs.Filling.{IsFilled}
use Rattle.omf_externals.proofs.names.NameTable.add_all.Given as goal

-- the names so far are in the table
abbrev pub invariant-loop-name : goal.invariant-loop-name
invariant-loop-name l = IsFilled IsNameTable l.fn.self l.self (drop l.name-index l.names) l.names
