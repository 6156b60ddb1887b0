use Rattle.std.proofs.Common.{drop}
use Rattle.std.specs.Prelude.{flat_map, map, zip}
use Rattle.omf_layout.specs.Several.Placing.{lows, lows_in, IsLowTable}
use Rattle.omf_check.specs.Module.{typed_modules}
use Rattle.omf_placement.proofs.Filling.{IsFilled}
use Rattle.omf_layout.proofs.several.groups.LowTable.of.Given as goal

-- the groups of the modules so far are in the table
abbrev pub invariant-loop-j : goal.invariant-loop-j
invariant-loop-j l = IsFilled IsLowTable l.initial.table.by_name l.table.by_name (flat_map lows_in (drop l.j (zip (typed_modules l.modules) (map (λ s. s.items) l.places)))) (lows (typed_modules l.modules) (map (λ s. s.items) l.places))
