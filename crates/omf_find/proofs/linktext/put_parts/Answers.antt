use Rattle.std.proofs.Common.{◌≡◌, ◌+◌, ◌++◌, ◌∙◌, List, ℕ, ap, ap₂, refl, arith}
use Rattle.std.specs.Prelude.{Bool, map, string_bytes}
use Rattle.omf_linking.specs.Locator.KeyForms.{is_repeated}
use Rattle.omf_find.specs.LinkText.{part_by, part_name, part_text}
use Rattle.omf_placement.proofs.StepLaws.{next_item, none_left, one_more, all_printed}
use Rattle.omf_find.proofs.PartLaws.{as_many, same_at}
use Rattle.omf_find.proofs.linktext.put_parts.Goals as goal

pub bounds-names-before : goal.bounds-names-before
bounds-names-before c =
    let known = ap (map string_bytes) c.deref-names.ensures.value ∙ c.in_ok-kept.ensures in
    omega (arith, c.loop-before-test.true, as_many string_bytes (part_name c.args.source.gathered.now) c.deref-names.result.now c.args.parts.now known)

pub loop-before-init : goal.loop-before-init
loop-before-init c = record { whole = refl }

pub loop-before-preserved : goal.loop-before-preserved
loop-before-preserved c =
    let g = c.args.source.gathered.now in
    let files = map string_bytes c.args.source.files.now in
    let parts = c.args.parts.now in
    let names = map (part_name g) parts in
    let i = c.loop-before.before in
    let part = c.index-parts-before.result in
    let text = c.loop-before.text.items in
    let known : map string_bytes c.deref-names.result.now ≡ names = ap (map string_bytes) c.deref-names.ensures.value ∙ c.in_ok-kept.ensures in
    let own : string_bytes c.index-names-before.result ≡ part_name g part
    = same_at string_bytes (part_name g) c.deref-names.result.now parts known i c.index-names-before.result part c.index-names-before.is c.index-parts-before.is c.loop-before-test.true in
    let again : c.is_repeated.result ≡ is_repeated names (part_name g part)
    = c.is_repeated.ensures (map string_bytes c.deref-names.result.now) c.in_ok-table.ensures ∙ ap₂ is_repeated known (c.as_bytes.ensures.value ∙ own) in
    one_more (part_text files g names) parts i c.args.text.now.items text part _
    (next_item parts i part c.index-parts-before.is c.loop-before-test.true)
    (c.in_ok-put_part.ensures ∙ ap₂ (λ (name : List ℕ) (repeated : Bool). text ++ part_by files g part (i + 1) name repeated) (c.as_str.ensures.value ∙ own) again)
    c.loop-before.invariant

pub returns : goal.returns
returns c =
    let g = c.args.source.gathered.now in
    let parts = c.args.parts.now in
    let f = part_text (map string_bytes c.args.source.files.now) g (map (part_name g) parts) in
    all_printed f parts c.loop-before.before c.args.text.now.items c.loop-before.text.items
    (none_left parts c.loop-before.before (omega (arith, c.loop-before-test.false))) c.loop-before.invariant
