use Rattle.omf_keys.proofs.AlikeLaws.{placed-alike}
use Rattle.omf_keys.proofs.PublicLaws.{derived-same, weak-added}
use Rattle.omf_keys.proofs.laws.externals_by_keys.Goals as goal
use Rattle.omf_placement.specs.Derive.{placed_modules}

pub returns : goal.returns
returns c = λ ms ns places given h. (
  derived-same (placed_modules ms places) (placed_modules ns places) (placed-alike c.pieces_by_keys.ensures ms ns places h) given,
  weak-added (placed_modules ms places) (placed_modules ns places) (placed-alike c.pieces_by_keys.ensures ms ns places h) given,
)
