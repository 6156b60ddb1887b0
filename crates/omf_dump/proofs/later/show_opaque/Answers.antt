use Rattle.omf_dump.proofs.UnjudgedLaws.{on_any}
use Rattle.omf_dump.proofs.later.show_opaque.Goals as goal

pub returns-clause-text : goal.returns-clause-text
returns-clause-text c = on_any c.keep_unread.result c.in_ok-show_raw.ensures
