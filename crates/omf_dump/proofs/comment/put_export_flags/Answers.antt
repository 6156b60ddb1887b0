use Rattle.std.proofs.Common.{ℕ, subst}
use Rattle.std.specs.Prelude.{codes}
use Rattle.omf_frame.specs.Bytes.{AddsText}
use Rattle.omf_dump.specs.Fields.{Number}
use Rattle.omf_dump.specs.Render.{value_text}
use Rattle.omf_dump.proofs.TextLaws.{three_written}
use Rattle.omf_dump.proofs.comment.put_export_flags.Goals as goal

pub returns : goal.returns
returns c =
    let third = subst (λ (n : ℕ). AddsText c.number.result c.put_export_marks.new.text.items c.number.new.text.items (value_text c.args.format (codes "parameters") (Number n))) c.from.ensures c.number.ensures in
    three_written c.number.result c.args.text.now.items c.put_export_marks.new.text.items c.number.new.text.items _ _ _ c.in_ok-put_export_marks.ensures third
