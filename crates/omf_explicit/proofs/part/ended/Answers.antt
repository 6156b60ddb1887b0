use Rattle.std.proofs.Common.{◌+◌, ◌<◌, ◌∙◌, Err, arith, length, sym, ap}
use Rattle.omf_frame.specs.Fault.{Fault}
use Rattle.omf_explicit.proofs.FieldSteps.{ends_late}
use Rattle.omf_explicit.proofs.part.ended.Goals as goal

pub returns-else-pos-body : goal.returns-else-pos-body
returns-else-pos-body c =
    let low : c.args.pos < length c.args.body.now = omega (arith, c.if-pos-body.false, c.requires.0) in
    ap (λ (e : Fault). Err e) c.fault_at.ensures ∙ sym (ends_late c.args.part (3 + c.args.pos) c.args.pos c.args.body.now low)
