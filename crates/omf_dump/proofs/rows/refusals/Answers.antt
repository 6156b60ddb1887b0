use Rattle.std.specs.Prelude.{refl}
use Rattle.std.specs.Fmt.{digits}
use Rattle.omf_dump.proofs.rows.refusals.Goals as goal

pub returns-clause-checksum : goal.returns-clause-checksum
unfolding digits
returns-clause-checksum c = refl

pub returns-clause-names : goal.returns-clause-names
unfolding digits
returns-clause-names c = refl

pub returns-clause-cextdef : goal.returns-clause-cextdef
unfolding digits
returns-clause-cextdef c = refl

pub returns-clause-end : goal.returns-clause-end
unfolding digits
returns-clause-end c = refl

pub returns-clause-empty : goal.returns-clause-empty
unfolding digits
returns-clause-empty c = refl

pub returns-clause-program : goal.returns-clause-program
unfolding digits
returns-clause-program c = refl
