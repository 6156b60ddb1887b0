use Rattle.std.proofs.Common.{refl, ◌∙◌, codes}
use Rattle.std.specs.Prelude.{decimal}
use Rattle.omf_cmd.specs.declared.fault.RunFault.TheVariants.{Write}
use Rattle.omf_cmd.proofs.Written.{begun, ended, stopped, went_on}
use Rattle.omf_lines.proofs.files_fault.write_at.Goals as goal

pub returns-in_err-print_all : goal.returns-in_err-print_all
returns-in_err-print_all g c =
    stopped Write (g.K.Sink.seen c.args.writer.now) _ (g.K.Sink.seen c.print_all.new.writer) _ _ (codes "at ") (decimal c.args.at) (begun _ _) refl c.in_err-print_all.field-0.0 c.from_residual.result c.from_residual.ensures.0 c.from_residual.ensures.1 c.in_err-print_all.ensures

pub returns : goal.returns
returns g c =
    let first = went_on Write _ _ (g.K.Sink.seen c.print_all.new.writer) _ _ (codes "at ") (decimal c.args.at) (begun (g.K.Sink.seen c.args.writer.now) _) refl c.in_ok-print_all.ensures in
    let digits = c.as_bytes.ensures.value ∙ c.format.ensures.text in
    ended Write _ _ (g.K.Sink.seen c.print_all-2.new.writer) _ (decimal c.args.at) c.print_all-2.result first (rw (← digits) c.print_all-2.ensures)
