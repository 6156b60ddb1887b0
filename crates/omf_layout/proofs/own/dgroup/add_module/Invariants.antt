use Rattle.std.proofs.Common.{◌≡◌, ◌++◌}
use Rattle.std.specs.Prelude.{map}
use Rattle.omf_check.specs.Module.{records_in}
use Rattle.omf_check.specs.WellFormed.{recs}
use Rattle.omf_layout.specs.Own.Order.{module_classes}
use Rattle.omf_layout.proofs.OrderModule.{classes-by}
use Rattle.omf_layout.proofs.own.dgroup.add_module.Given as goal

-- the classes so far, and those of the records that are left
abbrev pub invariant-loop-rec : goal.invariant-loop-rec
invariant-loop-rec l = let m = recs (records_in l.«module».bytes) in map (λ c. c.now) l.classes.items ++ classes-by m l.rec-iterator ≡ map (λ c. c.now) l.fn.classes.items ++ module_classes m
