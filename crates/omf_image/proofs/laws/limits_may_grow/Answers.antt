use Rattle.omf_image.proofs.LimitLaws.{blocks_grow}
use Rattle.omf_image.proofs.laws.limits_may_grow.Goals as goal

pub returns : goal.returns
returns c = blocks_grow
