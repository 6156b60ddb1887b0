use Rattle.omf_lowering.proofs.PlaceLaws.{copies_placed}
use Rattle.omf_lowering.proofs.laws.copies_are_copies.Goals as goal

pub returns : goal.returns
returns c = λ width limits bytes trees spelled l copies e. copies_placed bytes width limits trees spelled l copies e
