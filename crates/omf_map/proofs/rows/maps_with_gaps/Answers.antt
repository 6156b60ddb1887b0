use Rattle.std.specs.Prelude.{refl}
use Rattle.std.specs.Fmt.{digits}
use Rattle.omf_map.proofs.rows.maps_with_gaps.Goals as goal

pub returns-clause-gaps : goal.returns-clause-gaps
unfolding digits
returns-clause-gaps c = refl

pub returns-clause-stored : goal.returns-clause-stored
unfolding digits
returns-clause-stored c = refl

pub returns-clause-by_hand : goal.returns-clause-by_hand
unfolding digits
returns-clause-by_hand c = refl

pub returns-clause-twice : goal.returns-clause-twice
unfolding digits
returns-clause-twice c = refl

pub returns-clause-undefined : goal.returns-clause-undefined
unfolding digits
returns-clause-undefined c = refl

pub returns-clause-local : goal.returns-clause-local
unfolding digits
returns-clause-local c = refl

pub returns-clause-unplaced : goal.returns-clause-unplaced
unfolding digits
returns-clause-unplaced c = refl
