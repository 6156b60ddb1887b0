use Rattle.std.proofs.Common.{drop}
use Rattle.std.specs.Prelude.{flat_map, zip}
use Rattle.omf_check.specs.Module.{typed_modules}
use Rattle.omf_map.specs.Inner.PublicAddresses.{IsTable}
use Rattle.omf_map.specs.Addresses.{all_given, publics_given}
use Rattle.omf_placement.proofs.Filling.{IsFilled}
use Rattle.omf_map.proofs.publics.PublicAddresses.of.Given as goal

-- the publics of the modules so far are in the table
abbrev pub invariant-loop-j : goal.invariant-loop-j
invariant-loop-j l = IsFilled IsTable l.initial.table.by_name l.table.by_name (flat_map publics_given (drop l.j (zip (typed_modules l.modules) l.given))) (all_given (typed_modules l.modules) l.given)
