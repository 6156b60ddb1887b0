use Rattle.std.specs.Prelude.{refl}
use Rattle.std.specs.Fmt.{digits}
use Rattle.omf_linker.proofs.rows.labels_of_a_file.Goals as goal

pub returns : goal.returns
unfolding digits
returns c = refl
