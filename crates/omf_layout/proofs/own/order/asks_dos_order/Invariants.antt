use Rattle.std.proofs.Common.{◌≡◌}
use Rattle.std.specs.Prelude.{◌||◌}
use Rattle.omf_check.specs.Module.{records_in}
use Rattle.omf_check.specs.WellFormed.{recs}
use Rattle.omf_layout.specs.Own.Order.{asks_dos_order}
use Rattle.omf_layout.proofs.OrderModule.{asks-by}
use Rattle.omf_layout.proofs.own.order.asks_dos_order.Given as goal

-- one so far, or one of those that are left
abbrev pub invariant-loop-rec : goal.invariant-loop-rec
invariant-loop-rec l = (l.found || asks-by l.rec-iterator) ≡ asks_dos_order (recs (records_in l.«module».bytes))
