use Rattle.std.specs.Prelude.{refl}
use Rattle.std.specs.Fmt.{digits}
use Rattle.omf_dump.proofs.rows.left_out_bytes.Goals as goal

pub returns-clause-more : goal.returns-clause-more
unfolding digits
returns-clause-more c = refl
