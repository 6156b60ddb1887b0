use Rattle.std.proofs.Common.{rules, ◌≡◌, ◌+◌, ◌∷◌, ◌∙◌, [], arith, drop, ap, get_or, length}
use Rattle.std.specs.Prelude.{Err, map}
use Rattle.std.proofs.lemmas.List.{map-append}
use Rattle.omf_records.specs.Inner.Seen.{map_ok}
use Rattle.omf_check.specs.Module.{typed_modules}
use Rattle.omf_placement.specs.Derive.{PlacedModule, seen_publics, placed_modules}
use Rattle.omf_placement.specs.Inner.Derived.{resolved}
use Rattle.omf_placement.specs.Inner.Linkage.{Known}
use Rattle.omf_placement.proofs.LinkageLaws.{module-placed, module-ends, modules-resolved, err-tried, same-length}
use Rattle.omf_placement.proofs.LinkedLaws.{links-count, next-zip, none-zip, turn-found, turn-short, zip-length}
use Rattle.omf_placement.proofs.several.linkage.try_resolve.Goals as goal

pub returns-in_err-externals : goal.returns-in_err-externals
returns-in_err-externals c =
    let tm = typed_modules c.args.modules.now in
    let pls = c.args.places.now in
    let ms = placed_modules c.args.modules.now pls in
    let j = c.loop-j.j in
    let f = c.in_err-externals.field-0.0 in
    let pl = c.index-places-j.result in
    let m : PlacedModule = (get_or tm j [], pl) in
    let at : c.index-of_module-j.result ≡ get_or c.args.linkage.now.links j c.index-of_module-j.result = c.index-of_module-j.is ∙ ap (λ x. get_or x j c.index-of_module-j.result) (c.as_slice-of_module.ensures.value ∙ ap (λ (k : Known). k.links) c.linkage.view_is) in
    let next : drop j ms ≡ m ∷ drop (j + 1) ms = next-zip tm pls j pl c.requires.placed c.index-places-j.is c.loop-j-test.true in
    let same : c.from_residual-in_err-externals.result ≡ Err f = search rules in
    err-tried (resolved ms c.args.given.now) _ f (ap (map_ok (λ v. map (λ e. e.items) v.items)) same)
    (module-ends ms c.args.given.now j m next f (map (λ e. e.items) c.loop-j.resolved.items)
    (c.in_err-externals.ensures (seen_publics ms m) c.args.given.now m.0 c.in_ok-first_given.ensures (turn-found tm pls c.args.linkage.now c.requires.linked c.requires.placed j pl c.index-places-j.is c.loop-j-test.true c.index-of_module-j.result at)) c.loop-j.invariant)

pub loop-j-preserved : goal.loop-j-preserved
loop-j-preserved c =
    let tm = typed_modules c.args.modules.now in
    let pls = c.args.places.now in
    let ms = placed_modules c.args.modules.now pls in
    let j = c.loop-j.j in
    let pl = c.index-places-j.result in
    let m : PlacedModule = (get_or tm j [], pl) in
    let at : c.index-of_module-j.result ≡ get_or c.args.linkage.now.links j c.index-of_module-j.result = c.index-of_module-j.is ∙ ap (λ x. get_or x j c.index-of_module-j.result) (c.as_slice-of_module.ensures.value ∙ ap (λ (k : Known). k.links) c.linkage.view_is) in
    let next : drop j ms ≡ m ∷ drop (j + 1) ms = next-zip tm pls j pl c.requires.placed c.index-places-j.is c.loop-j-test.true in
    module-placed ms c.args.given.now j m next c.in_ok-externals.externals.items (map (λ e. e.items) c.loop-j.resolved.items) (map (λ e. e.items) c.push.new.self.items)
    (c.in_ok-externals.ensures (seen_publics ms m) c.args.given.now m.0 c.in_ok-first_given.ensures (turn-found tm pls c.args.linkage.now c.requires.linked c.requires.placed j pl c.index-places-j.is c.loop-j-test.true c.index-of_module-j.result at)) (ap (map (λ e. e.items)) c.in_ok-push.ensures.items ∙ map-append (λ e. e.items) c.loop-j.resolved.items (c.in_ok-externals.externals ∷ [])) c.loop-j.invariant

pub returns : goal.returns
returns c =
    let ms = placed_modules c.args.modules.now c.args.places.now in
    modules-resolved ms c.args.given.now (map (λ e. e.items) c.loop-j.resolved.items) c.loop-j.j (none-zip (typed_modules c.args.modules.now) c.args.places.now c.loop-j.j c.requires.placed c.loop-j-test.false) c.loop-j.invariant

pub bounds-of_module-j : goal.bounds-of_module-j
bounds-of_module-j c =
    let tm = typed_modules c.args.modules.now in
    omega (arith, c.loop-j-test.true, zip-length tm c.args.places.now c.requires.placed, links-count tm c.args.linkage.now c.requires.linked, ap length (c.as_slice-of_module.ensures.value ∙ ap (λ (k : Known). k.links) c.linkage.view_is))

pub overflow_cast-j : goal.overflow_cast-j
overflow_cast-j c = omega (arith, c.loop-j-test.true, c.requires.few, same-length c.args.modules.now c.args.places.now c.requires.placed)

pub linked_places-requires : goal.linked_places-requires
linked_places-requires c =
    let j = c.loop-j.j in
    let at : c.index-of_module-j.result ≡ get_or c.args.linkage.now.links j c.index-of_module-j.result = c.index-of_module-j.is ∙ ap (λ x. get_or x j c.index-of_module-j.result) (c.as_slice-of_module.ensures.value ∙ ap (λ (k : Known). k.links) c.linkage.view_is) in
    turn-short (typed_modules c.args.modules.now) c.args.places.now c.args.linkage.now c.requires.linked c.requires.placed j c.index-places-j.result c.index-places-j.is c.loop-j-test.true c.index-of_module-j.result at
