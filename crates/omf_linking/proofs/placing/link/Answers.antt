use Rattle.std.proofs.Common.{◌≡◌, ◌∙◌, List, ap, ap₂, length, subst, sym}
use Rattle.std.proofs.lemmas.Result.{err_from_is_err_and}
use Rattle.std.specs.Prelude.{Ok, zip}
use Rattle.std.specs.List.{AllZip}
use Rattle.std.proofs.lemmas.Slice.Zip.{AllZip-long}
use Rattle.omf_check.specs.Module.{typed_modules}
use Rattle.omf_placement.specs.Derivation.{IsPlaceOf}
use Rattle.omf_placement.specs.Inner.Derived.{derived}
use Rattle.omf_placement.specs.Placement.{Places}
use Rattle.omf_placement.specs.Weak.{with_weak}
use Rattle.omf_linking.specs.Locator.Sparse.{Sparse}
use Rattle.omf_linking.specs.Placing.{all_stored, given_of, linked, places_of, stored_in}
use Rattle.omf_linking.proofs.EachLaws.{typed_length}
use Rattle.omf_linking.proofs.LinkLaws.{derived_as_many, external-outcome, linked-as, some-typed}
use Rattle.omf_linking.proofs.PlacesLaws.{all-have-places, text-tables}
use Rattle.omf_linking.proofs.placing.link.Goals as goal

pub derive-requires-clause-placed : goal.derive-requires-clause-placed
derive-requires-clause-placed c =
    let ms = typed_modules c.args.modules.now in
    let ss = c.in_ok-sparse.sparse.items in
    let pls = c.in_ok-places.places.items in
    let placed : places_of 0 (zip ms ss) ≡ Ok pls = subst (λ (xs : List Sparse). places_of 0 (zip ms xs) ≡ Ok pls) c.deref.ensures.value c.in_ok-places.ensures in
    subst (λ (xs : List Places). AllZip IsPlaceOf ms xs) (sym c.deref-5.ensures.value)
    (all-have-places 0 ms ss pls (text-tables ms c.args.text.now ss c.in_ok-sparse.ensures.given) placed)

pub with_weak-requires-clause-placed : goal.with_weak-requires-clause-placed
with_weak-requires-clause-placed c =
    let ms = typed_modules c.args.modules.now in
    let ss = c.in_ok-sparse.sparse.items in
    let pls = c.in_ok-places.places.items in
    let placed : places_of 0 (zip ms ss) ≡ Ok pls = subst (λ (xs : List Sparse). places_of 0 (zip ms xs) ≡ Ok pls) c.deref.ensures.value c.in_ok-places.ensures in
    let fit = all-have-places 0 ms ss pls (text-tables ms c.args.text.now ss c.in_ok-sparse.ensures.given) placed in
    ap length c.deref-3.ensures.value ∙ AllZip-long IsPlaceOf ms pls fit ∙ typed_length c.args.modules.now

pub returns-clause-each : goal.returns-clause-each
returns-clause-each c =
    let ms = typed_modules c.args.modules.now in
    let ss = c.in_ok-sparse.sparse.items in
    let pls = c.in_ok-places.places.items in
    let placed : places_of 0 (zip ms ss) ≡ Ok pls = subst (λ (xs : List Sparse). places_of 0 (zip ms xs) ≡ Ok pls) c.deref.ensures.value c.in_ok-places.ensures in
    let fit = all-have-places 0 ms ss pls (text-tables ms c.args.text.now ss c.in_ok-sparse.ensures.given) placed in
    derived_as_many c.args.modules.now c.deref-5.result.now c.in_ok-placements.placements.items c.deref-6.result.now
    (ap length c.deref-5.ensures.value ∙ AllZip-long IsPlaceOf ms pls fit ∙ typed_length c.args.modules.now) c.in_ok-placements.ensures

pub all_stored-requires : goal.all_stored-requires
all_stored-requires c =
    let ms = typed_modules c.args.modules.now in
    let ss = c.in_ok-sparse.sparse.items in
    let pls = c.in_ok-places.places.items in
    let placed : places_of 0 (zip ms ss) ≡ Ok pls = subst (λ (xs : List Sparse). places_of 0 (zip ms xs) ≡ Ok pls) c.deref.ensures.value c.in_ok-places.ensures in
    let fit = all-have-places 0 ms ss pls (text-tables ms c.args.text.now ss c.in_ok-sparse.ensures.given) placed in
    let many : length c.in_ok-placements.placements.items ≡ length c.args.modules.now
    = derived_as_many c.args.modules.now c.deref-5.result.now c.in_ok-placements.placements.items c.deref-6.result.now
    (ap length c.deref-5.ensures.value ∙ AllZip-long IsPlaceOf ms pls fit ∙ typed_length c.args.modules.now) c.in_ok-placements.ensures in
    ap length c.deref-8.ensures.value ∙ many ∙ sym (ap length c.deref-7.ensures.value ∙ c.in_ok-sparse.ensures.each)

pub returns-clause-each_stored : goal.returns-clause-each_stored
returns-clause-each_stored c = c.in_ok-stored.ensures.each ∙ ap length c.deref-7.ensures.value ∙ c.in_ok-sparse.ensures.each

pub returns-clause-stored : goal.returns-clause-stored
returns-clause-stored c =
    let ms = typed_modules c.args.modules.now in
    c.in_ok-stored.ensures.all ∙ ap₂ (λ (ss : List Sparse) (pls : List Places). all_stored ss pls) c.deref-7.ensures.value c.deref-8.ensures.value
    ∙ sym (ap (λ r. stored_in r c.in_ok-placements.placements.items) c.in_ok-sparse.ensures.given)

pub returns-in_err-placements-clause-placements : goal.returns-in_err-placements-clause-placements
returns-in_err-placements-clause-placements c =
    let ms = typed_modules c.args.modules.now in
    let ss = c.in_ok-sparse.sparse.items in
    let pls = c.in_ok-places.places.items in
    let placed : places_of 0 (zip ms ss) ≡ Ok pls = subst (λ (xs : List Sparse). places_of 0 (zip ms xs) ≡ Ok pls) c.deref.ensures.value c.in_ok-places.ensures in
    let given = c.deref-6.ensures.value ∙ c.in_ok-given.ensures
    ∙ ap₂ (λ (xs : List Places) gs. with_weak (zip ms xs) gs) c.deref-3.ensures.value (c.deref-4.ensures.value ∙ c.in_ok-by_hand.ensures ∙ ap given_of c.deref-2.ensures.value) in
    let same = ap₂ (λ (xs : List Places) gs. derived (zip ms xs) gs) (sym c.deref-5.ensures.value) (sym given) in
    let some = some-typed c.args.modules.now (sym c.is_empty.ensures ∙ c.if-is_empty.false) in
    let all = derived (zip ms c.deref-5.result.now) c.deref-6.result.now in
    let e = err_from_is_err_and c.from_residual-in_err-placements.result c.from_residual-in_err-placements.ensures.1 in
    let is = linked-as ms c.args.text.now ss pls all some c.in_ok-sparse.ensures.given placed same in
    rw (e.1, e.2) (external-outcome (linked ms c.args.text.now) all c.in_err-placements.field-0.0 is c.in_err-placements.ensures)

pub returns-clause-placements : goal.returns-clause-placements
returns-clause-placements c =
    let ms = typed_modules c.args.modules.now in
    let ss = c.in_ok-sparse.sparse.items in
    let pls = c.in_ok-places.places.items in
    let placed : places_of 0 (zip ms ss) ≡ Ok pls = subst (λ (xs : List Sparse). places_of 0 (zip ms xs) ≡ Ok pls) c.deref.ensures.value c.in_ok-places.ensures in
    let given = c.deref-6.ensures.value ∙ c.in_ok-given.ensures
    ∙ ap₂ (λ (xs : List Places) gs. with_weak (zip ms xs) gs) c.deref-3.ensures.value (c.deref-4.ensures.value ∙ c.in_ok-by_hand.ensures ∙ ap given_of c.deref-2.ensures.value) in
    let same = ap₂ (λ (xs : List Places) gs. derived (zip ms xs) gs) (sym c.deref-5.ensures.value) (sym given) in
    let some = some-typed c.args.modules.now (sym c.is_empty.ensures ∙ c.if-is_empty.false) in
    linked-as ms c.args.text.now ss pls (Ok c.in_ok-placements.placements.items) some c.in_ok-sparse.ensures.given placed (same ∙ c.in_ok-placements.ensures)
