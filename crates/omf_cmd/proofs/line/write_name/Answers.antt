use Rattle.std.proofs.Common.{refl}
use Rattle.omf_placement.specs.Quoted.{escaped}
use Rattle.omf_cmd.specs.declared.fault.RunFault.TheVariants.{Write}
use Rattle.omf_cmd.proofs.Written.{all_written, begun, next_item, no_item, stopped, went_on}
use Rattle.omf_cmd.proofs.line.write_name.Goals as goal

pub loop-byte-init : goal.loop-byte-init
loop-byte-init g c = begun _ _

pub returns-in_err-write_escaped : goal.returns-in_err-write_escaped
returns-in_err-write_escaped g c =
    stopped Write _ _ (g.K.Sink.seen c.write_escaped.new.writer) _ _ _ _ c.loop-byte.invariant (next_item escaped c.args.name.now c.loop-byte.byte-index 0 c.loop-byte-test.true) c.in_err-write_escaped.field-0.0 c.from_residual.result c.from_residual.ensures.0 c.from_residual.ensures.1 c.in_err-write_escaped.ensures

pub loop-byte-preserved : goal.loop-byte-preserved
loop-byte-preserved g c =
    went_on Write _ _ (g.K.Sink.seen c.write_escaped.new.writer) _ _ _ _ c.loop-byte.invariant (next_item escaped c.args.name.now c.loop-byte.byte-index 0 c.loop-byte-test.true) c.in_ok-write_escaped.ensures

pub returns : goal.returns
returns g c = all_written Write _ (g.K.Sink.seen c.loop-byte.writer) _ _ c.loop-byte.invariant (no_item escaped c.args.name.now c.loop-byte.byte-index c.loop-byte-test.false)
