use Rattle.std.specs.Prelude.{refl}
use Rattle.std.specs.Fmt.{digits}
use Rattle.omf_lines.proofs.rows.fault_lines.Goals as goal

pub returns-clause-memory : goal.returns-clause-memory
unfolding digits
returns-clause-memory c = refl

pub returns-clause-read : goal.returns-clause-read
unfolding digits
returns-clause-read c = refl

pub returns-clause-refused : goal.returns-clause-refused
unfolding digits
returns-clause-refused c = refl

pub returns-clause-no_text : goal.returns-clause-no_text
unfolding digits
returns-clause-no_text c = refl
