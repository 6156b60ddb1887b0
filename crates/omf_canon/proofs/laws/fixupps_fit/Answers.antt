use Rattle.omf_canon.proofs.CutLaws.{raws-fit}
use Rattle.omf_canon.proofs.laws.fixupps_fit.Goals as goal

pub returns : goal.returns
returns c = λ kind fixups. raws-fit kind fixups
