use Rattle.std.proofs.Common.{◌∷◌, [], codes}
use Rattle.omf_cmd.specs.Printed.{line}
use Rattle.omf_cmd.specs.declared.fault.RunFault.TheVariants.{Write}
use Rattle.omf_cmd.proofs.Written.{cut_text, then_text}
use Rattle.omf_lines.specs.Files.{file_at}
use Rattle.omf_lines.proofs.files_fault.print_more.Goals as goal

pub returns-in-Ok : goal.returns-in-Ok
returns-in-Ok g c =
    then_text Write (g.K.Sink.seen c.args.writer.now) (g.K.Sink.seen c.write_at.new.writer) (g.K.Sink.seen c.print_words.new.writer) (file_at c.args.at) (line (codes ": neither a module nor padding" ∷ [])) c.in-Ok.ensures c.print_words.ensures

pub returns-in_default : goal.returns-in_default
returns-in_default g c =
    cut_text Write (g.K.Sink.seen c.args.writer.now) (g.K.Sink.seen c.write_at.new.writer) (file_at c.args.at) (line (codes ": neither a module nor padding" ∷ [])) c.in_default.field-0 c.in_default.ensures
