use Rattle.std.specs.Prelude.{refl}
use Rattle.std.specs.Fmt.{digits}
use Rattle.omf_lines.proofs.rows.text_fault_lines.Goals as goal

pub returns-clause-number : goal.returns-clause-number
unfolding digits
returns-clause-number c = refl

pub returns-clause-letter : goal.returns-clause-letter
unfolding digits
returns-clause-letter c = refl

pub returns-clause-foreign : goal.returns-clause-foreign
unfolding digits
returns-clause-foreign c = refl

pub returns-clause-before : goal.returns-clause-before
unfolding digits
returns-clause-before c = refl

pub returns-clause-unknown : goal.returns-clause-unknown
unfolding digits
returns-clause-unknown c = refl

pub returns-clause-numbered : goal.returns-clause-numbered
unfolding digits
returns-clause-numbered c = refl

pub returns-clause-several : goal.returns-clause-several
unfolding digits
returns-clause-several c = refl

pub returns-clause-again : goal.returns-clause-again
unfolding digits
returns-clause-again c = refl

pub returns-clause-unshared : goal.returns-clause-unshared
unfolding digits
returns-clause-unshared c = refl

pub returns-clause-of_class : goal.returns-clause-of_class
unfolding digits
returns-clause-of_class c = refl

pub returns-clause-of_name : goal.returns-clause-of_name
unfolding digits
returns-clause-of_name c = refl

pub returns-clause-of_groups : goal.returns-clause-of_groups
unfolding digits
returns-clause-of_groups c = refl

pub returns-clause-no_class : goal.returns-clause-no_class
unfolding digits
returns-clause-no_class c = refl

pub returns-clause-nothing_before : goal.returns-clause-nothing_before
unfolding digits
returns-clause-nothing_before c = refl

pub returns-clause-no_room : goal.returns-clause-no_room
unfolding digits
returns-clause-no_room c = refl

pub returns-clause-no_group : goal.returns-clause-no_group
unfolding digits
returns-clause-no_group c = refl
