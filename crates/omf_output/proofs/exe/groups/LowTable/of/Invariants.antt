use Rattle.std.proofs.Common.{drop}
use Rattle.std.specs.Prelude.{flat_map}
use Rattle.omf_placement.specs.Derive.{placed_modules}
use Rattle.omf_placement.proofs.Filling.{IsFilled}
use Rattle.omf_output.specs.Exe.Derived.{lows, lows_in, IsLowTable}
use Rattle.omf_output.proofs.exe.groups.LowTable.of.Given as goal

-- the groups of the modules so far are in the table
abbrev pub invariant-loop-j : goal.invariant-loop-j
invariant-loop-j l = let ms = placed_modules l.modules l.places in IsFilled IsLowTable l.initial.table.by_name l.table.by_name (flat_map lows_in (drop l.j ms)) (lows ms)
