use Rattle.std.proofs.Common.{map}
use Rattle.std.specs.Prelude.{string_bytes}
use Rattle.omf_check.specs.Module.{typed_modules}
use Rattle.omf_linker.proofs.RomFiles.{owned_file}
use Rattle.omf_linker.proofs.link.rom.linked_file.Goals as goal

pub returns-in-Err-Outside : goal.returns-in-Err-Outside
returns-in-Err-Outside c =
    owned_file c.args.form (map string_bytes c.args.labeled.labels.now) (typed_modules c.args.labeled.modules.now) c.args.linked.now c.in-Err-Outside.address c.outside.result (rw c.in-Err-Outside.field-0-is at c.in-Err-Outside.ensures) c.outside.ensures
