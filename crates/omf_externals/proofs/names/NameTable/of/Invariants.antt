use Rattle.std.proofs.Common.{drop}
use Rattle.omf_check.specs.Module.{typed_modules}
use Rattle.omf_externals.specs.Names.{all_names, IsNameTable}
use Rattle.omf_placement.proofs.Filling.{IsFilled}
use Rattle.omf_externals.proofs.names.NameTable.of.Given as goal

-- the names of the modules so far are in the table
abbrev pub invariant-loop-module : goal.invariant-loop-module
invariant-loop-module l = IsFilled IsNameTable l.initial.table l.table (all_names (typed_modules (drop l.module-index l.modules))) (all_names (typed_modules l.modules))
