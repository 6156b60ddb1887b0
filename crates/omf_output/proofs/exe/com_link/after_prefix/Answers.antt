use Rattle.std.proofs.Common.{◌∙◌, ap₂, ◌++◌}
use Rattle.omf_output.proofs.ComLaws.{prefix-dropped}
use Rattle.omf_output.proofs.exe.com_link.after_prefix.Goals as goal

pub returns : goal.returns
returns c =
    c.in_ok-extend_from_slice.ensures.items ∙ ap₂ (λ a b. a ++ b) c.new-file.ensures.items (c.split_at.ensures.back ∙ prefix-dropped 256 c.min.result c.args.image.now c.min.ensures)
