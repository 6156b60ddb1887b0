use Rattle.std.proofs.Common.{◌++◌, ap, subst, ◌∙◌}
use Rattle.std.specs.Prelude.{Bool, codes}
use Rattle.omf_frame.specs.Bytes.{AddsText}
use Rattle.omf_dump.specs.Render.{flag_text}
use Rattle.omf_dump.proofs.TextLaws.{two_written}
use Rattle.omf_dump.proofs.comment.put_export_marks.Goals as goal

pub returns : goal.returns
returns c =
    let first = c.in_ok-flag.ensures ∙ ap (λ (b : Bool). c.args.text.now.items ++ flag_text c.args.format (codes "resident-name") b) c.is_resident.ensures in
    let second = subst (λ (b : Bool). AddsText c.flag-2.result c.flag.new.text.items c.flag-2.new.text.items (flag_text c.args.format (codes "no-data") b)) c.has_no_data.ensures c.flag-2.ensures in
    two_written c.flag-2.result c.args.text.now.items c.flag.new.text.items c.flag-2.new.text.items _ _ first second
