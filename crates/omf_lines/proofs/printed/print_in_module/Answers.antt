use Rattle.std.specs.Prelude.{flat_map}
use Rattle.omf_cmd.specs.FaultLine.{fault_text}
use Rattle.omf_cmd.specs.Printed.{spaced}
use Rattle.omf_cmd.specs.declared.fault.RunFault.TheVariants.{Write}
use Rattle.omf_cmd.proofs.Written.{cut_text, then_text}
use Rattle.omf_lines.specs.Faults.{module_words}
use Rattle.omf_lines.proofs.printed.print_in_module.Goals as goal

pub returns-in-Ok : goal.returns-in-Ok
returns-in-Ok g c =
    then_text Write (g.K.Sink.seen c.args.writer.now) (g.K.Sink.seen c.write_module.new.writer) (g.K.Sink.seen c.print.new.writer) (flat_map spaced (module_words c.args.«module»)) (fault_text c.args.fault.now) c.in-Ok.ensures c.print.ensures

pub returns-in_default : goal.returns-in_default
returns-in_default g c =
    cut_text Write (g.K.Sink.seen c.args.writer.now) (g.K.Sink.seen c.write_module.new.writer) (flat_map spaced (module_words c.args.«module»)) (fault_text c.args.fault.now) c.in_default.field-0 c.in_default.ensures
