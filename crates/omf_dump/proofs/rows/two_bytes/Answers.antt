use Rattle.std.specs.Prelude.{refl}
use Rattle.std.specs.Fmt.{digits}
use Rattle.omf_dump.proofs.rows.two_bytes.Goals as goal

pub returns : goal.returns
unfolding digits
returns c = refl
