use Rattle.std.proofs.Common.{ap, sym, ◌∙◌}
use Rattle.std.specs.Prelude.{map}
use Rattle.omf_check.specs.Module.{typed_modules}
use Rattle.omf_layout.specs.Own.Communals.{faults_in, shared_by}
use Rattle.omf_layout.proofs.ComdefLaws.{no-runs}
use Rattle.omf_layout.proofs.own.communals.communals_in.Goals as goal

pub returns-then-not-have_comdefs-clause-all : goal.returns-then-not-have_comdefs-clause-all
returns-then-not-have_comdefs-clause-all c =
    c.new.ensures.items ∙ sym (ap (map shared_by) (no-runs (typed_modules c.args.modules.now) (sym c.have_comdefs.ensures ∙ c.if-not-have_comdefs.true)))

pub returns-then-not-have_comdefs-clause-sound : goal.returns-then-not-have_comdefs-clause-sound
returns-then-not-have_comdefs-clause-sound c =
    ap faults_in (no-runs (typed_modules c.args.modules.now) (sym c.have_comdefs.ensures ∙ c.if-not-have_comdefs.true))
