use Rattle.std.specs.Prelude.{refl}
use Rattle.std.specs.Fmt.{digits}
use Rattle.omf_layout.proofs.rows.quoted_names.Goals as goal

pub returns-clause-empty : goal.returns-clause-empty
unfolding digits
returns-clause-empty c = refl

pub returns-clause-escaped : goal.returns-clause-escaped
unfolding digits
returns-clause-escaped c = refl
