use Rattle.std.proofs.Common.{◌≡◌, ◌∙◌, List, ap, sym}
use Rattle.std.specs.Prelude.{map, Ok}
use Rattle.std.proofs.lemmas.List.{length-map}
use Rattle.omf_check.specs.Module.{typed_modules}
use Rattle.omf_placement.specs.Placement.{Places}
use Rattle.omf_placement.specs.Derive.{placed_modules}
use Rattle.omf_placement.specs.Inner.Derived.{resolved}
use Rattle.omf_placement.proofs.LinkageLaws.{as-many, filled}
use Rattle.omf_placement.proofs.several.linkage.derive_linked.Goals as goal

pub with_externals-requires : goal.with_externals-requires
with_externals-requires c =
    let ess = map (λ e. e.items) c.in_ok-externals.externals.items in
    let found : resolved (placed_modules c.args.modules.now c.args.places.items) c.args.given.now ≡ Ok ess = ap (λ (pls : List Places). resolved (placed_modules c.args.modules.now pls) c.args.given.now) (sym c.deref.ensures.value) ∙ c.in_ok-externals.ensures.resolved in
    sym (length-map c.in_ok-externals.externals.items (λ e. e.items)) ∙ as-many (typed_modules c.args.modules.now) c.args.places.items c.requires.placed c.args.given.now ess found

pub returns-in-Ok : goal.returns-in-Ok
returns-in-Ok c =
    let ess = map (λ e. e.items) c.in_ok-externals.externals.items in
    let found : resolved (placed_modules c.args.modules.now c.args.places.items) c.args.given.now ≡ Ok ess = ap (λ (pls : List Places). resolved (placed_modules c.args.modules.now pls) c.args.given.now) (sym c.deref.ensures.value) ∙ c.in_ok-externals.ensures.resolved in
    filled (typed_modules c.args.modules.now) c.args.places.items c.requires.placed c.args.given.now ess found ∙ ap (λ x. Ok x) (sym c.in-Ok.ensures)
