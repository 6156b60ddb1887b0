use Rattle.std.proofs.Common.{true, false, refl}
use Rattle.clap.proofs.OnLiterals.{clap_on_literals}
use Rattle.omf_drafting.proofs.rows.place_asked.Goals as goal

pub returns-clause-none : goal.returns-clause-none
unfolding clap_on_literals
returns-clause-none c program = record { sound = refl; named = record { real = false; set = refl; named = refl } }

pub returns-clause-real : goal.returns-clause-real
unfolding clap_on_literals
returns-clause-real c program = record { sound = refl; named = record { real = true; set = refl; named = refl } }

pub returns-clause-flat : goal.returns-clause-flat
unfolding clap_on_literals
returns-clause-flat c program = record { sound = refl; named = record { real = false; set = refl; named = refl } }
