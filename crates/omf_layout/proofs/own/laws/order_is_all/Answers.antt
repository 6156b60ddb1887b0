use Rattle.omf_layout.proofs.DosLaws.OrderAlone.{order-alone}
use Rattle.omf_layout.proofs.own.laws.order_is_all.Goals as goal

pub returns : goal.returns
returns c = order-alone
