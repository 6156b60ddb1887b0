use Rattle.std.specs.Prelude.{refl}
use Rattle.std.specs.Fmt.{digits}
use Rattle.omf_linker.proofs.rows.texts_of_memories.Goals as goal

pub returns-clause-two : goal.returns-clause-two
unfolding digits
returns-clause-two c = refl

pub returns-clause-long : goal.returns-clause-long
unfolding digits
returns-clause-long c = refl
