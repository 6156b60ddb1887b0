use Rattle.std.specs.Prelude.{refl}
use Rattle.std.specs.Fmt.{digits}
use Rattle.omf_cmd.proofs.rows.texts_of_other_lines.Goals as goal

pub returns-clause-start : goal.returns-clause-start
unfolding digits
returns-clause-start c = refl

pub returns-clause-real_start : goal.returns-clause-real_start
unfolding digits
returns-clause-real_start c = refl

pub returns-clause-comment : goal.returns-clause-comment
unfolding digits
returns-clause-comment c = refl

pub returns-clause-two_spaces : goal.returns-clause-two_spaces
unfolding digits
returns-clause-two_spaces c = refl

pub returns-clause-too_high : goal.returns-clause-too_high
unfolding digits
returns-clause-too_high c = refl

pub returns-clause-extra : goal.returns-clause-extra
unfolding digits
returns-clause-extra c = refl

pub returns-clause-no_group : goal.returns-clause-no_group
unfolding digits
returns-clause-no_group c = refl

pub returns-clause-absolute : goal.returns-clause-absolute
unfolding digits
returns-clause-absolute c = refl

pub returns-clause-elsewhere : goal.returns-clause-elsewhere
unfolding digits
returns-clause-elsewhere c = refl

pub returns-clause-early : goal.returns-clause-early
unfolding digits
returns-clause-early c = refl
