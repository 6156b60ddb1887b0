use Rattle.std.specs.Prelude.{refl}
use Rattle.std.specs.Fmt.{digits}
use Rattle.omf_cmd.proofs.rows.fault_lines.Goals as goal

pub returns-clause-memory : goal.returns-clause-memory
unfolding digits
returns-clause-memory c = refl

pub returns-clause-read : goal.returns-clause-read
unfolding digits
returns-clause-read c = refl

pub returns-clause-write : goal.returns-clause-write
unfolding digits
returns-clause-write c = refl

pub returns-clause-refused : goal.returns-clause-refused
unfolding digits
returns-clause-refused c = refl

pub returns-clause-empty : goal.returns-clause-empty
unfolding digits
returns-clause-empty c = refl

pub returns-clause-text : goal.returns-clause-text
unfolding digits
returns-clause-text c = refl

pub returns-clause-long : goal.returns-clause-long
unfolding digits
returns-clause-long c = refl

pub returns-clause-missing : goal.returns-clause-missing
unfolding digits
returns-clause-missing c = refl

pub returns-clause-extra : goal.returns-clause-extra
unfolding digits
returns-clause-extra c = refl

pub returns-clause-absolute : goal.returns-clause-absolute
unfolding digits
returns-clause-absolute c = refl

pub returns-clause-far : goal.returns-clause-far
unfolding digits
returns-clause-far c = refl
