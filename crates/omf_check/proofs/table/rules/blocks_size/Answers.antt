use Rattle.std.proofs.Common.{◌∙◌, ◌+◌, ℕ, ap, Err, Result}
use Rattle.omf_frame.specs.Fault.{Fault}
use Rattle.omf_frame.specs.Types.{width_bytes}
use Rattle.omf_image.specs.Inner.Expanding.{expanded_length}
use Rattle.omf_check.specs.Inner.Judging.{fault_moved}
use Rattle.omf_check.proofs.table.rules.blocks_size.Goals as goal

pub returns-in-Ok : goal.returns-in-Ok
returns-in-Ok c =
    let width = c.args.blocks.width in
    let bytes = c.args.blocks.bytes.now in
    ap (fault_moved (c.args.at + width_bytes width)) (c.in-Ok.ensures.length ∙ ap (λ l. expanded_length (width_bytes width) l bytes) c.profile.ensures)

pub returns-in-Err : goal.returns-in-Err
returns-in-Err c =
    let width = c.args.blocks.width in
    let bytes = c.args.blocks.bytes.now in
    let at = c.args.at in
    let whole = λ (n : ℕ). let r : Result ℕ Fault = Err (record { within = at + n + c.fault.inside.within; reason = c.fault.inside.reason }) in r in
    ap whole c.bytes.ensures
    ∙ ap (fault_moved (at + width_bytes width)) (ap (λ f. Err f) c.fault.view_is ∙ c.in-Err.ensures.length ∙ ap (λ l. expanded_length (width_bytes width) l bytes) c.profile.ensures)
