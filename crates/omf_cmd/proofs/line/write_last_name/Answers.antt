use Rattle.std.proofs.Common.{append_assoc, refl, ◌++◌, ◌∷◌, []}
use Rattle.std.specs.Prelude.{flat_map}
use Rattle.omf_placement.specs.Quoted.{escaped}
use Rattle.omf_cmd.specs.declared.fault.RunFault.TheVariants.{Write}
use Rattle.omf_cmd.proofs.Written.{begun, ended, stopped, went_on}
use Rattle.omf_cmd.proofs.line.write_last_name.Goals as goal

pub returns-in_err-print_all : goal.returns-in_err-print_all
returns-in_err-print_all g c =
    stopped Write _ _ (g.K.Sink.seen c.print_all.new.writer) _ _ (34 ∷ []) _ (begun _ _) refl c.in_err-print_all.field-0.0 c.from_residual.result c.from_residual.ensures.0 c.from_residual.ensures.1 c.in_err-print_all.ensures

pub returns-in_err-write_name : goal.returns-in_err-write_name
returns-in_err-write_name g c =
    let first = went_on Write _ _ (g.K.Sink.seen c.print_all.new.writer) _ _ (34 ∷ []) _ (begun (g.K.Sink.seen c.args.writer.now) _) refl c.in_ok-print_all.ensures in
    stopped Write _ _ (g.K.Sink.seen c.write_name.new.writer) _ _ (flat_map escaped c.args.name.now) _ first (append_assoc (flat_map escaped c.args.name.now) (34 ∷ []) (10 ∷ [])) c.in_err-write_name.field-0.0 c.from_residual-in_err-write_name.result c.from_residual-in_err-write_name.ensures.0 c.from_residual-in_err-write_name.ensures.1 c.in_err-write_name.ensures

pub returns : goal.returns
returns g c =
    let first = went_on Write _ _ (g.K.Sink.seen c.print_all.new.writer) _ _ (34 ∷ []) _ (begun (g.K.Sink.seen c.args.writer.now) _) refl c.in_ok-print_all.ensures in
    let second = went_on Write _ _ (g.K.Sink.seen c.write_name.new.writer) _ _ (flat_map escaped c.args.name.now) _ first (append_assoc (flat_map escaped c.args.name.now) (34 ∷ []) (10 ∷ [])) c.in_ok-write_name.ensures in
    ended Write _ _ (g.K.Sink.seen c.print_all-2.new.writer) _ _ c.print_all-2.result second c.print_all-2.ensures
