use Rattle.std.proofs.Common.{◌≡◌, ◌∙◌, List, [], map, ap, ap₂, length, vec_len, sym, subst, rules}
use Rattle.std.specs.Prelude.{Result}
use Rattle.omf_check.specs.Module.{typed_modules}
use Rattle.omf_linking.specs.Inner.Parting.{frame_gifts_in, gift_seen}
use Rattle.omf_linking.specs.Inner.Walking.{IsTaken}
use Rattle.omf_linking.specs.Locator.Items.{Item, all_items, frame_gifts}
use Rattle.omf_linking.specs.Locator.Parts.{groups_named}
use Rattle.omf_linking.specs.declared.locator.fault.LineFault.{LineFault}
use Rattle.omf_linking.proofs.PartLaws.{frames-by, frames-of, some-listed}
use Rattle.omf_linking.proofs.locator.lines.Lines.frame.Goals as goal

pub returns : goal.returns
returns c items at =
    let ms = typed_modules c.args.modules.now in
    let n = c.args.name.now in
    let f = c.args.frame in
    let groups : c.in_ok-groups.groups.items ≡ groups_named n ms = c.in_ok-groups.ensures in
    let many : vec_len c.in_ok-groups.groups ≡ length c.in_ok-groups.groups.items = search rules in
    let some = λ (e : groups_named n ms ≡ []). some-listed c.in_ok-groups.groups.items (vec_len c.in_ok-groups.groups) many (sym c.is_empty.ensures ∙ c.if-is_empty.false) (groups ∙ e) in
    let gifts : map gift_seen c.deref-3.result.now ≡ frame_gifts items f (groups_named n ms)
    = ap (map gift_seen) c.deref-3.ensures.value ∙ c.in_ok-gifts.ensures ∙ ap₂ (λ ss es. frame_gifts_in ss f es) (c.deref.ensures.value ∙ at.given_is) (c.deref-2.ensures.value ∙ groups) ∙ frames-of ms items n f in
    subst (λ (r : Result (List Item) LineFault). IsTaken ms c.give_all.new.self items c.args.line r c.give_all.result) (sym (frames-by ms items n f some ∙ ap (all_items ms items) (sym gifts))) (c.give_all.ensures items at)
