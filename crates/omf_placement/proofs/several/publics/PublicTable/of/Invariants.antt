use Rattle.std.proofs.Common.{drop}
use Rattle.omf_placement.specs.Derive.{all_publics, placed_modules}
use Rattle.omf_placement.specs.Inner.PublicTable.{IsTable}
use Rattle.omf_placement.proofs.Filling.{IsFilled}
use Rattle.omf_placement.proofs.several.publics.PublicTable.of.Given as goal

-- the publics of the modules so far are in the table
abbrev pub invariant-loop-j : goal.invariant-loop-j
invariant-loop-j l = IsFilled IsTable l.initial.table.by_name l.table.by_name (all_publics (drop l.j (placed_modules l.modules l.placements))) (all_publics (placed_modules l.modules l.placements))
