use Rattle.std.proofs.Common.{subst}
use Rattle.omf_cmd.specs.Runs.{IsWritten}
use Rattle.omf_lines.proofs.FileLines.{rest_of_line}
use Rattle.omf_lines.proofs.files_fault.print_end.Goals as goal

pub returns-in_default : goal.returns-in_default
returns-in_default g c =
    subst (IsWritten (g.K.Sink.seen c.args.writer.now) (g.K.Sink.seen c.print_link.new.writer)) (rest_of_line c.args.fault c.in_default.not-NoText) c.print_link.ensures
