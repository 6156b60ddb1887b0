use Rattle.omf_layout.proofs.DosLaws.DosOrder.{dos-order}
use Rattle.omf_layout.proofs.own.laws.dos_order.Goals as goal

pub returns : goal.returns
returns c = dos-order
