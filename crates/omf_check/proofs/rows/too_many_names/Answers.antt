use Rattle.std.proofs.Common.{refl}
use Rattle.omf_check.proofs.rows.too_many_names.Goals as goal

pub returns : goal.returns
returns c = refl
