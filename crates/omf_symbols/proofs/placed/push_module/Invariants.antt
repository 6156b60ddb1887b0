use Rattle.std.proofs.Common.{◌≡◌, ◌++◌}
use Rattle.omf_check.specs.Module.{records_in}
use Rattle.omf_check.specs.WellFormed.{recs}
use Rattle.omf_placement.specs.Derive.{PlacedModule}
use Rattle.omf_symbols.specs.Placed.{module_symbols}
use Rattle.omf_symbols.proofs.SymbolLaws.{listed_symbols}
use Rattle.omf_symbols.proofs.placed.push_module.Given as goal

-- the symbols so far, and those of the records that are left
abbrev pub invariant-loop-rec : goal.invariant-loop-rec
invariant-loop-rec l =
    let m : PlacedModule = (recs (records_in l.«module».bytes), l.placement) in
    l.symbols.items ++ listed_symbols l.load m l.rec-iterator ≡ l.fn.symbols.items ++ module_symbols l.load m
