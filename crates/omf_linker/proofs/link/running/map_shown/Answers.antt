use Rattle.std.proofs.Common.{map}
use Rattle.std.specs.Prelude.{string_bytes}
use Rattle.omf_check.specs.Module.{typed_modules}
use Rattle.omf_linker.specs.Link.Mapped.{IsMapped}
use Rattle.omf_linker.proofs.LinkRuns.{with_lines}
use Rattle.omf_linker.proofs.link.running.map_shown.Goals as goal

pub returns-in-Err : goal.returns-in-Err
returns-in-Err c =
    let ms = typed_modules c.args.labeled.modules.now in
    let labels = map string_bytes c.args.labeled.labels.now in
    with_lines (IsMapped labels ms c.args.text.now) labels ms c.args.text.now c.in-Err.fault c.named.result c.in-Err.ensures c.named.ensures
