use Rattle.std.proofs.Common.{◌∙◌}
use Rattle.omf_lowering.proofs.FrontLaws.{halted_by, lowered_by}
use Rattle.omf_lowering.proofs.lowering.lowered.Goals as goal

pub returns-in-Ok-unrolled-clause-ok : goal.returns-in-Ok-unrolled-clause-ok
returns-in-Ok-unrolled-clause-ok c =
    lowered_by c.args.bytes.now c.in-Ok.read.1.now c.in-Ok-unrolled.bytes.items c.in-Ok.read.0 c.deref.result.now c.in-Ok.ensures.ok (c.deref.ensures.value ∙ c.finish-records.ensures) c.in-Ok-unrolled.ensures.ok

pub returns-clause-err : goal.returns-clause-err
returns-clause-err c =
    let halt = c.in-Err-unrolled.halt in
    halted_by c.args.bytes.now c.in-Ok.read.1.now c.in-Ok.read.0 c.deref.result.now halt.number halt.stop c.halted.result c.in-Ok.ensures.ok (c.deref.ensures.value ∙ c.finish-records.ensures) c.in-Err-unrolled.ensures.err c.halted.ensures
