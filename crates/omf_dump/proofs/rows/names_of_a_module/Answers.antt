use Rattle.std.specs.Prelude.{refl}
use Rattle.std.specs.Fmt.{digits}
use Rattle.omf_dump.proofs.rows.names_of_a_module.Goals as goal

pub returns-clause-text : goal.returns-clause-text
unfolding digits
returns-clause-text c = refl

pub returns-clause-csv : goal.returns-clause-csv
unfolding digits
returns-clause-csv c = refl

pub returns-clause-json : goal.returns-clause-json
unfolding digits
returns-clause-json c = refl
