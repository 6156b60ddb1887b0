use Rattle.omf_layout.proofs.DosLaws.RoomLaws.{order-fits}
use Rattle.omf_layout.proofs.own.laws.order_fits.Goals as goal

pub returns : goal.returns
returns c = order-fits
