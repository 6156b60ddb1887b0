use Rattle.omf_check.specs.Module.{typed_modules}
use Rattle.omf_linker.specs.declared.link.words.Task.TheVariants as task
use Rattle.omf_linker.proofs.LookLaws.{no-places}
use Rattle.omf_linker.proofs.link.running.draft_at.Goals as goal

pub returns-clause-linked : goal.returns-clause-linked
returns-clause-linked c = no-places (task.Draft c.args.asked) (typed_modules c.args.labeled.modules.now) c.args.text.now c.made.result tt c.made.ensures.placed
