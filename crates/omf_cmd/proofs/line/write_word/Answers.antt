use Rattle.std.proofs.Common.{sym, ap, ◌++◌}
use Rattle.omf_cmd.specs.declared.fault.RunFault.TheVariants.{Write}
use Rattle.omf_cmd.proofs.Written.{begun, ended, stopped, went_on}
use Rattle.omf_cmd.proofs.line.write_word.Goals as goal

pub returns-in_err-print_all : goal.returns-in_err-print_all
returns-in_err-print_all g c =
    let parts = ap (λ t. t ++ c.args.after.now) (sym c.as_bytes.ensures.value) in
    stopped Write (g.K.Sink.seen c.args.writer.now) _ (g.K.Sink.seen c.print_all.new.writer) _ _ c.as_bytes.result.now _ (begun _ _) parts c.in_err-print_all.field-0.0 c.from_residual.result c.from_residual.ensures.0 c.from_residual.ensures.1 c.in_err-print_all.ensures

pub returns : goal.returns
returns g c =
    let parts = ap (λ t. t ++ c.args.after.now) (sym c.as_bytes.ensures.value) in
    let first = went_on Write _ _ (g.K.Sink.seen c.print_all.new.writer) _ _ c.as_bytes.result.now _ (begun (g.K.Sink.seen c.args.writer.now) _) parts c.in_ok-print_all.ensures in
    ended Write _ _ (g.K.Sink.seen c.print_all-2.new.writer) _ _ c.print_all-2.result first c.print_all-2.ensures
