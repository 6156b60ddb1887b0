use Rattle.std.proofs.Common.{List, ap, subst, ◌∙◌}
use Rattle.omf_frame.specs.Bytes.{AddsText}
use Rattle.omf_frame.specs.Types.{width_bytes}
use Rattle.omf_image.specs.Inner.Expanding.{expanded_length}
use Rattle.omf_image.specs.declared.limits.Limits.{Limits}
use Rattle.omf_dump.specs.Fields.{Field}
use Rattle.omf_dump.specs.Render.{fields_text}
use Rattle.omf_dump.proofs.ExpandedLaws.{short_blocks}
use Rattle.omf_dump.proofs.contents.put_expanded.Goals as goal

pub returns : goal.returns
returns c =
    let size = c.expanded_len-length.ensures.length ∙ ap (λ (l : Limits). expanded_length (width_bytes c.args.blocks.width) l c.args.blocks.bytes.now) c.profile.ensures in
    let is = short_blocks c.args.blocks.width c.args.blocks.bytes.now c.expanded_len-length.result c.if-blocks-gt65534.false size in
    subst (λ (fs : List Field). AddsText c.put_length_if.result c.args.text.now.items c.put_length_if.new.text.items (fields_text c.args.format fs)) is c.put_length_if.ensures
