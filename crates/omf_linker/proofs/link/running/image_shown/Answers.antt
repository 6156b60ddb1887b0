use Rattle.std.proofs.Common.{map}
use Rattle.std.specs.Prelude.{string_bytes}
use Rattle.omf_check.specs.Module.{typed_modules}
use Rattle.omf_linker.specs.Link.Linked.{IsLinked}
use Rattle.omf_linker.proofs.LinkRuns.{with_lines}
use Rattle.omf_linker.proofs.link.running.image_shown.Goals as goal

pub returns-in-Err-clause-shown : goal.returns-in-Err-clause-shown
returns-in-Err-clause-shown c =
    let ms = typed_modules c.args.labeled.modules.now in
    with_lines (IsLinked ms c.args.text.now) (map string_bytes c.args.labeled.labels.now) ms c.args.text.now c.in-Err.fault c.named.result c.in-Err.ensures.shown c.named.ensures

pub returns-in-Ok-clause-linked : goal.returns-in-Ok-clause-linked
returns-in-Ok-clause-linked c = c.in-Ok.ensures.linked
