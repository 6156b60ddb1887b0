use Rattle.std.specs.Prelude.{refl}
use Rattle.std.specs.Fmt.{digits}
use Rattle.omf_linking.proofs.locator.rows.entries_that_keys_name.Goals as goal

pub returns-clause-escaped : goal.returns-clause-escaped
unfolding digits
returns-clause-escaped c = refl
