use Rattle.std.specs.Prelude.{refl}
use Rattle.std.specs.Fmt.{digits}
use Rattle.omf_map.proofs.rows.maps_of_one_module.Goals as goal

pub returns-clause-constant : goal.returns-clause-constant
unfolding digits
returns-clause-constant c = refl

pub returns-clause-local : goal.returns-clause-local
unfolding digits
returns-clause-local c = refl

pub returns-clause-whole : goal.returns-clause-whole
unfolding digits
returns-clause-whole c = refl

pub returns-clause-unplaced : goal.returns-clause-unplaced
unfolding digits
returns-clause-unplaced c = refl
