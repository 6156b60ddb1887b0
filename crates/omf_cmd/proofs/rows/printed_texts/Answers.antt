use Rattle.std.specs.Prelude.{refl}
use Rattle.std.specs.Fmt.{digits}
use Rattle.omf_cmd.proofs.rows.printed_texts.Goals as goal

pub returns-clause-list : goal.returns-clause-list
unfolding digits
returns-clause-list c = refl

pub returns-clause-check : goal.returns-clause-check
unfolding digits
returns-clause-check c = refl

pub returns-clause-reloc : goal.returns-clause-reloc
unfolding digits
returns-clause-reloc c = refl
