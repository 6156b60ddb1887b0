use Rattle.std.proofs.Common.{drop}
use Rattle.std.specs.Prelude.{flat_map}
use Rattle.std.specs.List.{enumerate_from}
use Rattle.omf_check.specs.Module.{typed_modules}
use Rattle.omf_externals.specs.Unresolved.{IsByName, all_rows, module_rows}
use Rattle.omf_placement.proofs.Filling.{IsFilled}
use Rattle.omf_externals.proofs.by_name.ByName.of.Given as goal

-- the publics of the modules so far are in the table
abbrev pub invariant-loop-j : goal.invariant-loop-j
invariant-loop-j l = IsFilled IsByName l.initial.table.spots l.table.spots (flat_map module_rows (enumerate_from l.j (typed_modules (drop l.j l.modules)))) (all_rows (typed_modules l.modules))
