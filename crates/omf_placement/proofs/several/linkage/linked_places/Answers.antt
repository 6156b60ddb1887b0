use Rattle.std.proofs.Common.{rules, ◌≡◌, ◌+◌, ◌∙◌, ◌++◌, ap, subst, sym, arith, length}
use Rattle.std.specs.Prelude.{Some, Ok, Err, filter_map, map}
use Rattle.omf_records.specs.Inner.Seen.{map_ok}
use Rattle.omf_check.specs.Tables.{entry}
use Rattle.omf_placement.specs.Derive.{named_externals}
use Rattle.omf_placement.specs.Inner.Derived.{external_place, external_places, of_name}
use Rattle.omf_placement.specs.Inner.Linkage.{AreFound, found_by}
use Rattle.omf_placement.specs.Inner.PublicTable.{summed}
use Rattle.omf_placement.proofs.LinkageLaws.{one-placed, one-fails, all-placed, err-found, outcomes_from}
use Rattle.omf_placement.proofs.LinkedLaws.{zip-found, found-count}
use Rattle.omf_placement.proofs.NamedLaws.{entry-suc, named-count}
use Rattle.omf_placement.proofs.several.linkage.linked_places.Goals as goal

pub loop-before-init : goal.loop-before-init
loop-before-init c = λ among entries m g a. ap (λ ps. map (λ p. Ok p) ps ++ outcomes_from among entries c.args.number m 1) c.in_ok-found.ensures.items

pub loop-before-preserved : goal.loop-before-preserved
loop-before-preserved c = λ among entries m g a.
    let j = c.args.number in
    let k = c.loop-before.before in
    let p = c.in_ok-linked_place.field-0 in
    let xs = c.deref-definer-items.result.now in
    let a' : AreFound c.args.places.now xs among m = subst (λ x. AreFound c.args.places.now x among m) (sym (c.deref-definer-items.ensures.value ∙ c.links.view_is)) a in
    let t = zip-found (found_by c.args.places.now) (λ e. summed (filter_map (of_name e.0) (among e.1))) xs (named_externals m) k c.definer-item.result a' c.definer-item.is c.loop-before-test.true in
    let named : entry (named_externals m) (k + 1) ≡ Some t.item = ap (entry (named_externals m)) (omega arith) ∙ entry-suc (named_externals m) k ∙ t.at in
    let r = c.in_ok-linked_place.ensures entries (filter_map (of_name t.item.0) (among t.item.1)) g t.same in
    let placed : external_place (among t.item.1) entries j (k + 1) t.item.0 ≡ Ok p = sym r in
    one-placed among entries j m (k + 1) t.item (omega arith) named c.loop-before.found.items c.push.new.self.items p placed c.in_ok-push.ensures.items (c.loop-before.invariant among entries m g a)

pub returns-in_err-linked_place : goal.returns-in_err-linked_place
returns-in_err-linked_place c = λ among entries m g a.
    let j = c.args.number in
    let k = c.loop-before.before in
    let f = c.in_err-linked_place.field-0.0 in
    let xs = c.deref-definer-items.result.now in
    let a' : AreFound c.args.places.now xs among m = subst (λ x. AreFound c.args.places.now x among m) (sym (c.deref-definer-items.ensures.value ∙ c.links.view_is)) a in
    let t = zip-found (found_by c.args.places.now) (λ e. summed (filter_map (of_name e.0) (among e.1))) xs (named_externals m) k c.definer-item.result a' c.definer-item.is c.loop-before-test.true in
    let named : entry (named_externals m) (k + 1) ≡ Some t.item = ap (entry (named_externals m)) (omega arith) ∙ entry-suc (named_externals m) k ∙ t.at in
    let r = c.in_err-linked_place.ensures entries (filter_map (of_name t.item.0) (among t.item.1)) g t.same in
    let fails : external_place (among t.item.1) entries j (k + 1) t.item.0 ≡ Err f = sym r in
    let same : c.from_residual-in_err-linked_place.result ≡ Err f = search rules in
    err-found (external_places among entries j m) f _ (ap (map_ok (λ v. v.items)) same)
    (one-fails among entries j m (k + 1) t.item (omega arith) named c.loop-before.found.items f fails (c.loop-before.invariant among entries m g a))

pub returns : goal.returns
returns c = λ among entries m g a.
    let xs = c.deref-definer-items.result.now in
    let count = found-count (found_by c.args.places.now) (λ e. summed (filter_map (of_name e.0) (among e.1))) c.args.links.now (named_externals m) a in
    let same : length xs ≡ length c.args.links.now = ap length (c.deref-definer-items.ensures.value ∙ c.links.view_is) in
    all-placed among entries c.args.number m c.loop-before.found.items (c.loop-before.before + 1) (omega (arith, count, same, named-count m, c.loop-before-test.false)) (c.loop-before.invariant among entries m g a)
