use Rattle.std.proofs.Common.{drop}
use Rattle.omf_check.specs.Module.{typed_modules}
use Rattle.omf_placement.proofs.Filling.{IsFilled}
use Rattle.omf_aliases.specs.Aliases.{all_pairs}
use Rattle.omf_aliases.specs.Inner.Aliases.{IsSubstituteTable}
use Rattle.omf_aliases.proofs.substitutes.SubstituteTable.of.Given as goal

-- the pairs of the modules so far are in the table
abbrev pub invariant-loop-module : goal.invariant-loop-module
invariant-loop-module l = IsFilled IsSubstituteTable l.initial.table l.table (all_pairs (typed_modules (drop l.module-index l.modules))) (all_pairs (typed_modules l.modules))
