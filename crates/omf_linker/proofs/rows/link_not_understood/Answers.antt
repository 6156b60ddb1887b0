use Rattle.std.proofs.Common.{refl}
use Rattle.clap.proofs.OnLiterals.{clap_on_literals}
use Rattle.omf_linker.proofs.LinkWords.{has_fault}
use Rattle.omf_linker.proofs.rows.link_not_understood.Goals as goal

pub returns-clause-none : goal.returns-clause-none
unfolding clap_on_literals
returns-clause-none c program = refl

pub returns-clause-other : goal.returns-clause-other
unfolding clap_on_literals
returns-clause-other c program e = has_fault _ _ e

pub returns-clause-two : goal.returns-clause-two
unfolding clap_on_literals
returns-clause-two c program e = has_fault _ _ e

pub returns-clause-option : goal.returns-clause-option
unfolding clap_on_literals
returns-clause-option c program e = has_fault _ _ e
