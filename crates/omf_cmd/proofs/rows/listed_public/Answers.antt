use Rattle.std.specs.Prelude.{refl}
use Rattle.std.specs.Fmt.{digits}
use Rattle.omf_cmd.proofs.rows.listed_public.Goals as goal

pub returns : goal.returns
unfolding digits
returns c = refl
