use Rattle.std.proofs.Common.{true, false, refl, codes}
use Rattle.clap.proofs.OnLiterals.{clap_on_literals}
use Rattle.omf_linker.proofs.rows.link_asked.Goals as goal

pub returns-clause-image : goal.returns-clause-image
unfolding clap_on_literals
returns-clause-image c program = record { name = codes "image"; rows = _; sound = refl; parsed = refl; names = refl }

pub returns-clause-map : goal.returns-clause-map
unfolding clap_on_literals
returns-clause-map c program = record { name = codes "map"; rows = _; sound = refl; parsed = refl; names = refl }

pub returns-clause-draft : goal.returns-clause-draft
unfolding clap_on_literals
returns-clause-draft c program = record { name = codes "draft"; rows = _; sound = refl; parsed = refl; names = (refl, record { real = false; set = refl; named = refl }) }

pub returns-clause-real : goal.returns-clause-real
unfolding clap_on_literals
returns-clause-real c program = record { name = codes "draft"; rows = _; sound = refl; parsed = refl; names = (refl, record { real = true; set = refl; named = refl }) }

pub returns-clause-flat : goal.returns-clause-flat
unfolding clap_on_literals
returns-clause-flat c program = record { name = codes "draft"; rows = _; sound = refl; parsed = refl; names = (refl, record { real = false; set = refl; named = refl }) }
