use Rattle.std.specs.Prelude.{refl}
use Rattle.std.specs.Fmt.{digits}
use Rattle.omf_linker.proofs.rows.texts_with_a_start.Goals as goal

pub returns-clause-start : goal.returns-clause-start
unfolding digits
returns-clause-start c = refl

pub returns-clause-none : goal.returns-clause-none
unfolding digits
returns-clause-none c = refl
