use Rattle.std.specs.Prelude.{refl}
use Rattle.std.specs.Fmt.{digits}
use Rattle.omf_cmd.proofs.rows.two_lines_of_a_run.Goals as goal

pub returns : goal.returns
unfolding digits
returns c = refl
