use Rattle.omf_cmd.specs.declared.fault.RunFault.TheVariants.{Write}
use Rattle.omf_cmd.proofs.Written.{cut_text, then_text}
use Rattle.omf_lines.specs.Faults.{text_front}
use Rattle.omf_lines.proofs.fault.print_lines.Goals as goal

pub returns-in-Ok : goal.returns-in-Ok
returns-in-Ok g c =
    then_text Write (g.K.Sink.seen c.args.writer.now) (g.K.Sink.seen c.print_all.new.writer) (g.K.Sink.seen c.tell.new.writer) (text_front c.args.fault) c.args.lines.now (rw (c.as_bytes.ensures.value, c.text_front-front.ensures) at c.in-Ok.ensures) c.tell.ensures.prints

pub returns-in_default : goal.returns-in_default
returns-in_default g c =
    cut_text Write (g.K.Sink.seen c.args.writer.now) (g.K.Sink.seen c.print_all.new.writer) (text_front c.args.fault) c.args.lines.now c.in_default.field-0 (rw (c.as_bytes.ensures.value, c.text_front-front.ensures) at c.in_default.ensures)
