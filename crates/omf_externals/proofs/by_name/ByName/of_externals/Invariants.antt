use Rattle.std.proofs.Common.{drop, false}
use Rattle.std.specs.Prelude.{flat_map}
use Rattle.std.specs.List.{enumerate_from}
use Rattle.omf_check.specs.Module.{typed_modules}
use Rattle.omf_externals.specs.Unresolved.{IsByName, all_asked, asked_rows}
use Rattle.omf_placement.proofs.Filling.{IsFilled}
use Rattle.omf_externals.proofs.by_name.ByName.of_externals.Given as goal

-- the externals of the modules so far are in the table
abbrev pub invariant-loop-j : goal.invariant-loop-j
invariant-loop-j l = IsFilled IsByName l.initial.table.spots l.table.spots (flat_map (asked_rows false l.settled) (enumerate_from l.j (typed_modules (drop l.j l.modules)))) (all_asked l.settled (typed_modules l.modules))
