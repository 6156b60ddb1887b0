use Rattle.std.proofs.Common.{◌+◌, ◌∷◌, [], drop, subst}
use Rattle.std.specs.Prelude.{map, string_bytes}
use Rattle.omf_linking.specs.Locator.KeyForms.{IsTextTable}
use Rattle.omf_placement.proofs.Filling.{Adds, fill-more, fill-end}
use Rattle.omf_linking.proofs.KeyLaws.{empty-table, next-mapped, none-mapped}
use Rattle.omf_linking.proofs.locator.forms.TextTable.of.Goals as goal

pub loop-text-preserved : goal.loop-text-preserved
loop-text-preserved c =
    let xs = c.args.texts.now in
    let j = c.loop-text.text-index in
    let x = c.text-item.result in
    fill-more IsTextTable c.new.result c.loop-text.table.repeated c.add.new.self.repeated (string_bytes x ∷ []) (map string_bytes (drop j xs)) (map string_bytes (drop (j + 1) xs)) (map string_bytes xs)
    (next-mapped string_bytes xs j x c.text-item.is c.loop-text-test.true)
    (subst (λ t. Adds IsTextTable c.loop-text.table.repeated c.add.new.self.repeated (t ∷ [])) c.as_bytes.ensures.value c.in_ok-add.ensures) c.loop-text.invariant

pub returns : goal.returns
returns c =
    let xs = c.args.texts.now in
    let j = c.loop-text.text-index in
    fill-end IsTextTable c.new.result c.loop-text.table.repeated (map string_bytes (drop j xs)) (map string_bytes xs) (none-mapped string_bytes xs j c.loop-text-test.false) c.loop-text.invariant [] (empty-table c.new.result c.new.ensures.empty)
