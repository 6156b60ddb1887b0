use Rattle.std.proofs.Common.{subst}
use Rattle.omf_output.specs.Exe.FileFaults.{IsFileFault}
use Rattle.omf_output.proofs.LinkedLaws.{never-outside}
use Rattle.omf_output.proofs.exe.link.file_of.Goals as goal

pub unreachable-requires-in-Err-Outside : goal.unreachable-requires-in-Err-Outside
unreachable-requires-in-Err-Outside c =
    let e = c.in-Err-Outside in
    never-outside c.args.program.now e.field-0-0 c.requires.inside (subst (IsFileFault c.args.program.now) e.field-0-is e.ensures.fault)
