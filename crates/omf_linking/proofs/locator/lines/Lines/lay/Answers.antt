use Rattle.std.proofs.Common.{◌≡◌, ◌∙◌, List, [], map, ap, ap₂, length, vec_len, sym, subst, rules}
use Rattle.std.specs.Prelude.{Some, Ok, Result, option_map}
use Rattle.std.specs.List.{filter}
use Rattle.omf_check.specs.Module.{typed_modules}
use Rattle.omf_layout.specs.Several.Portions.{with_names}
use Rattle.omf_linking.specs.Inner.LineParsing.{parts_seen}
use Rattle.omf_linking.specs.Inner.Parting.{is_left_in, parts_laid}
use Rattle.omf_linking.specs.Inner.Walking.{IsTaken}
use Rattle.omf_linking.specs.Locator.Items.{Item, items_of, laid_items, last_end, parts_left}
use Rattle.omf_linking.specs.Locator.LinkEntries.{Lays}
use Rattle.omf_linking.specs.Locator.Parts.{gifts_of, parts_named, site_of}
use Rattle.omf_linking.specs.declared.locator.fault.LineFault.{LineFault}
use Rattle.omf_linking.specs.declared.locator.fault.LineFault.TheVariants as why
use Rattle.omf_linking.proofs.PartLaws.{lays-at, left-of, some-mapped}
use Rattle.omf_linking.proofs.WalkLaws.{fault_taken}
use Rattle.omf_linking.proofs.locator.lines.Lines.lay.Goals as goal

pub returns-in-Some : goal.returns-in-Some
returns-in-Some c items at =
    let ms = typed_modules c.args.modules.now in
    let ps = parts_seen c.args.parts in
    let named : map with_names c.in_ok-named.named.items ≡ parts_named ps ms = c.in_ok-named.ensures in
    let many : vec_len c.in_ok-named.named ≡ length c.in_ok-named.named.items = search rules in
    let some = λ (e : parts_named ps ms ≡ []). some-mapped with_names c.in_ok-named.named.items (vec_len c.in_ok-named.named) many (sym c.is_empty.ensures ∙ c.if-is_empty.false) (named ∙ e) in
    let site : site_of (last_end items) c.args.span ≡ Ok c.in-Ok.site = ap (λ o. site_of o c.args.span) (sym at.end_is) ∙ sym (c.site_of.ensures.value at.end_low) ∙ c.in-Ok.is in
    let left : map with_names c.in_ok-left.left.items ≡ parts_left items (parts_named ps ms)
    = c.in_ok-left.ensures ∙ ap₂ (λ ss xs. filter (λ x. is_left_in ss x.1.1) xs) (c.deref.ensures.value ∙ at.given_is) (ap (map with_names) c.deref-2.ensures.value ∙ named) ∙ left-of ms items ps in
    let whole : items_of ms items (Some (Lays ps c.args.span)) ≡ laid_items ms items (option_map parts_laid c.in_ok-laid.laid)
    = lays-at ms items ps c.args.span c.in-Ok.site some site ∙ ap (λ xs. laid_items ms items (gifts_of c.in-Ok.site xs)) (sym left) ∙ ap (laid_items ms items) (sym c.in_ok-laid.ensures.value) in
    subst (λ (r : Result (List Item) LineFault). IsTaken ms c.give_laid.new.self items c.args.line r c.give_laid.result) (sym (whole ∙ ap (λ o. laid_items ms items (option_map parts_laid o)) c.in-Some.is)) (c.give_laid.ensures items at)

pub returns : goal.returns
returns c items at =
    let ms = typed_modules c.args.modules.now in
    let ps = parts_seen c.args.parts in
    let named : map with_names c.in_ok-named.named.items ≡ parts_named ps ms = c.in_ok-named.ensures in
    let many : vec_len c.in_ok-named.named ≡ length c.in_ok-named.named.items = search rules in
    let some = λ (e : parts_named ps ms ≡ []). some-mapped with_names c.in_ok-named.named.items (vec_len c.in_ok-named.named) many (sym c.is_empty.ensures ∙ c.if-is_empty.false) (named ∙ e) in
    let site : site_of (last_end items) c.args.span ≡ Ok c.in-Ok.site = ap (λ o. site_of o c.args.span) (sym at.end_is) ∙ sym (c.site_of.ensures.value at.end_low) ∙ c.in-Ok.is in
    let left : map with_names c.in_ok-left.left.items ≡ parts_left items (parts_named ps ms)
    = c.in_ok-left.ensures ∙ ap₂ (λ ss xs. filter (λ x. is_left_in ss x.1.1) xs) (c.deref.ensures.value ∙ at.given_is) (ap (map with_names) c.deref-2.ensures.value ∙ named) ∙ left-of ms items ps in
    let whole : items_of ms items (Some (Lays ps c.args.span)) ≡ laid_items ms items (option_map parts_laid c.in_ok-laid.laid)
    = lays-at ms items ps c.args.span c.in-Ok.site some site ∙ ap (λ xs. laid_items ms items (gifts_of c.in-Ok.site xs)) (sym left) ∙ ap (laid_items ms items) (sym c.in_ok-laid.ensures.value) in
    fault_taken ms c.args.self.now items c.args.line why.NoRoom _ c.at_fault-in-None.result c.at_fault-in-None.ensures (whole ∙ ap (λ o. laid_items ms items (option_map parts_laid o)) c.in-None.is)
