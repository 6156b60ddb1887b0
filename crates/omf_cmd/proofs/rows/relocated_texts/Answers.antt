use Rattle.std.specs.Prelude.{refl}
use Rattle.std.specs.Fmt.{digits}
use Rattle.omf_cmd.proofs.rows.relocated_texts.Goals as goal

pub returns-clause-threads : goal.returns-clause-threads
unfolding digits
returns-clause-threads c = refl

pub returns-clause-flat : goal.returns-clause-flat
unfolding digits
returns-clause-flat c = refl

pub returns-clause-blocks : goal.returns-clause-blocks
unfolding digits
returns-clause-blocks c = refl

pub returns-clause-big : goal.returns-clause-big
unfolding digits
returns-clause-big c = refl

pub returns-clause-start : goal.returns-clause-start
unfolding digits
returns-clause-start c = refl
