use Rattle.std.specs.Prelude.{refl}
use Rattle.std.specs.Fmt.{digits}
use Rattle.omf_externals.proofs.rows.lines_of_names.Goals as goal

pub returns-clause-undefined : goal.returns-clause-undefined
unfolding digits
returns-clause-undefined c = refl

pub returns-clause-twice : goal.returns-clause-twice
unfolding digits
returns-clause-twice c = refl

pub returns-clause-local : goal.returns-clause-local
unfolding digits
returns-clause-local c = refl
