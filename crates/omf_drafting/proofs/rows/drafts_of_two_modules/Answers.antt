use Rattle.std.specs.Prelude.{refl}
use Rattle.std.specs.Fmt.{digits}
use Rattle.omf_drafting.proofs.rows.drafts_of_two_modules.Goals as goal

pub returns-clause-flat : goal.returns-clause-flat
unfolding digits
returns-clause-flat c = refl

pub returns-clause-real : goal.returns-clause-real
unfolding digits
returns-clause-real c = refl

pub returns-clause-keys : goal.returns-clause-keys
unfolding digits
returns-clause-keys c = refl

pub returns-clause-private : goal.returns-clause-private
unfolding digits
returns-clause-private c = refl

pub returns-clause-common : goal.returns-clause-common
unfolding digits
returns-clause-common c = refl
