use Rattle.std.proofs.Common.{◌∙◌, ◌++◌, ap}
use Rattle.std.specs.Prelude.{map, string_bytes}
use Rattle.omf_layout.proofs.Gathered.{more-given, all-given}
use Rattle.omf_linking.proofs.KeyLaws.{next-one, none-left}
use Rattle.omf_linking.specs.Inner.LineParsing.{parts_seen}
use Rattle.omf_lines.specs.TextLines.{parts_like}
use Rattle.omf_lines.proofs.text_line.parts_like.Goals as goal

pub loop-module-preserved : goal.loop-module-preserved
loop-module-preserved c =
    let ms = c.args.modules.now in
    let j = c.loop-module.module-index in
    more-given (map string_bytes c.loop-module.texts.items) (map string_bytes c.add_texts.new.texts.items) _ _ _ _ (c.in_ok-add_texts.ensures ∙ ap (λ xs. map string_bytes c.loop-module.texts.items ++ xs) c.in_ok-parts_in.ensures)
    (ap (parts_like (parts_seen c.args.parts)) (next-one ms j c.module-item.result c.module-item.is c.loop-module-test.true)) c.loop-module.invariant

pub returns : goal.returns
returns c =
    let ms = c.args.modules.now in
    let j = c.loop-module.module-index in
    all-given (map string_bytes c.loop-module.texts.items) _ _ (ap (parts_like (parts_seen c.args.parts)) (none-left ms j c.loop-module-test.false)) c.loop-module.invariant
