use Rattle.std.proofs.Common.{ap}
use Rattle.omf_canon.specs.Inner.Names.{canonical_bytes}
use Rattle.omf_canon.proofs.laws.canonicals_are_fixed.Goals as goal

pub returns : goal.returns
returns c = λ profile limits bytes records w. ap canonical_bytes (c.canonicals_hold.ensures profile limits bytes records w).skeleton
