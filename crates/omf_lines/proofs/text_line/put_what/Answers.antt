use Rattle.std.proofs.Common.{◌++◌, ◌∙◌, ap, sym}
use Rattle.std.specs.Prelude.{option_map}
use Rattle.omf_check.specs.Module.{typed_modules}
use Rattle.omf_linking.specs.Inner.LineParsing.{key_seen}
use Rattle.omf_lines.specs.TextLines.{subject, why_words}
use Rattle.omf_lines.proofs.TextLineLaws.{told_alone}
use Rattle.omf_lines.proofs.text_line.put_what.Goals as goal

pub returns : goal.returns
returns c =
    let opening = option_map key_seen c.args.bad.opening in
    let told = told_alone (typed_modules c.args.modules.now) opening c.args.bad.line.now c.args.bad.why c.in_default.not-NotUnderstood c.in_default-why.not-Unknown in
    c.in_ok-put_told.ensures
    ∙ ap (λ t. c.args.text.now.items ++ t) (ap (λ entry. why_words c.args.bad.why ++ subject opening entry) c.link_entry_on-entry.ensures ∙ sym told)
