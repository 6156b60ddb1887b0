use Rattle.omf_keys.proofs.AlikeLaws.{all-alike, placed-alike}
use Rattle.omf_keys.proofs.MoverLaws.{same-movers}
use Rattle.omf_keys.proofs.laws.movers_by_keys.Goals as goal
use Rattle.omf_check.specs.Module.{typed_modules}
use Rattle.omf_placement.specs.Derive.{placed_modules}

pub returns : goal.returns
returns c = λ ms ns places movers h. same-movers (typed_modules ms) (typed_modules ns) (placed_modules ms places) (placed_modules ns places)
    (all-alike c.pieces_by_keys.ensures ms ns h) (placed-alike c.pieces_by_keys.ensures ms ns places h) movers
