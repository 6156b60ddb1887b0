use Rattle.std.specs.Prelude.{refl}
use Rattle.std.specs.Fmt.{digits}
use Rattle.omf_drafting.proofs.rows.lines_to_be_filled_in.Goals as goal

pub returns-clause-external : goal.returns-clause-external
unfolding digits
returns-clause-external c = refl

pub returns-clause-communal : goal.returns-clause-communal
unfolding digits
returns-clause-communal c = refl
