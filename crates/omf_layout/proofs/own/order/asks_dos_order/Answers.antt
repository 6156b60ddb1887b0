use Rattle.std.proofs.Common.{ap, ◌∙◌}
use Rattle.omf_check.specs.Module.{records_in}
use Rattle.omf_layout.proofs.OrderModule.{asks-by, asks-all}
use Rattle.omf_layout.proofs.own.order.asks_dos_order.Goals as goal

pub loop-rec-init : goal.loop-rec-init
loop-rec-init c = ap asks-by (c.into_iter-rec-iterator.ensures.into_iter_gives ∙ c.undecoded-rec-items.ensures.listed) ∙ asks-all 0 0 (records_in c.args.«module».now.bytes)
