use Rattle.omf_layout.proofs.DosLaws.EmptyLaws.{order-is-empty}
use Rattle.omf_layout.proofs.own.laws.order_is_empty.Goals as goal

pub returns : goal.returns
returns c = order-is-empty
