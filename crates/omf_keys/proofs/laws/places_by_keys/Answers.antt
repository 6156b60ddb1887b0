use Rattle.omf_keys.proofs.AlikeLaws.{all-alike}
use Rattle.omf_keys.proofs.LayoutLaws.{arranged-places}
use Rattle.omf_keys.proofs.laws.places_by_keys.Goals as goal
use Rattle.omf_check.specs.Module.{typed_modules}

pub returns : goal.returns
returns c = λ o ms ns h. arranged-places (typed_modules ms) (typed_modules ns) (all-alike c.pieces_by_keys.ensures ms ns h) o
