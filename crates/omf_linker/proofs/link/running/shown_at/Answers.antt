use Rattle.std.proofs.Common.{map}
use Rattle.std.specs.Prelude.{string_bytes}
use Rattle.omf_check.specs.Module.{typed_modules}
use Rattle.omf_linking.specs.PlainText.{plain_text}
use Rattle.omf_linker.proofs.LinkRuns.{no_memory}
use Rattle.omf_linker.proofs.link.running.shown_at.Goals as goal

pub returns-in-Ok-clause-shown : goal.returns-in-Ok-clause-shown
returns-in-Ok-clause-shown c = rw (c.deref.ensures.value, c.in-Ok.ensures) at c.plain_shown_at.ensures.shown

pub returns-in-Ok-clause-linked : goal.returns-in-Ok-clause-linked
returns-in-Ok-clause-linked c = rw (c.deref.ensures.value, c.in-Ok.ensures) at c.plain_shown_at.ensures.linked

pub returns-in-Err-clause-shown : goal.returns-in-Err-clause-shown
returns-in-Err-clause-shown c = no_memory c.args.task (map string_bytes c.args.labeled.labels.now) (typed_modules c.args.labeled.modules.now) (plain_text c.args.text.now)
