use Rattle.omf_cmd.specs.declared.fault.RunFault.TheVariants.{Write}
use Rattle.omf_cmd.proofs.Written.{cut_text, then_text}
use Rattle.omf_lines.proofs.text_fault.print_named.Goals as goal

pub returns-in-Ok : goal.returns-in-Ok
returns-in-Ok g c =
    then_text Write (g.K.Sink.seen c.args.writer.now) (g.K.Sink.seen c.print_all.new.writer) (g.K.Sink.seen c.tell.new.writer) c.args.front.now c.args.lines.now (rw c.as_bytes.ensures.value at c.in-Ok.ensures) c.tell.ensures.prints

pub returns-in_default : goal.returns-in_default
returns-in_default g c =
    cut_text Write (g.K.Sink.seen c.args.writer.now) (g.K.Sink.seen c.print_all.new.writer) c.args.front.now c.args.lines.now c.in_default.field-0 (rw c.as_bytes.ensures.value at c.in_default.ensures)
