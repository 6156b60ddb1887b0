use Rattle.std.proofs.Common.{ap, ◌∙◌}
use Rattle.omf_frame.specs.Types.{width_bytes}
use Rattle.omf_image.specs.Inner.Expanding.{expanded_length}
use Rattle.omf_image.specs.Limits.{profile_limits}
use Rattle.omf_lowering.specs.Patches.{size_or_none}
use Rattle.omf_lowering.proofs.instance.blocks_size.Goals as goal

pub returns-in-Ok : goal.returns-in-Ok
returns-in-Ok c =
    let bytes = c.args.bytes.now in
    ap size_or_none (c.in-Ok.ensures.length ∙ ap (λ l. expanded_length (width_bytes c.width_of.result) l bytes) c.profile.ensures ∙ ap (λ n. expanded_length n profile_limits bytes) c.width_of.ensures)

pub returns-in-Err : goal.returns-in-Err
returns-in-Err c =
    let bytes = c.args.bytes.now in
    ap size_or_none (c.in-Err.ensures.length ∙ ap (λ l. expanded_length (width_bytes c.width_of.result) l bytes) c.profile.ensures ∙ ap (λ n. expanded_length n profile_limits bytes) c.width_of.ensures)
