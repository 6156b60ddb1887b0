use Rattle.std.proofs.Common.{◌≡◌, ap₂, sym, subst, rules, inr, ◌∙◌}
use Rattle.std.specs.Prelude.{Err}
use Rattle.omf_check.specs.Module.{typed_modules}
use Rattle.omf_linking.specs.Placing.{stored_by}
use Rattle.omf_linking.specs.Together.{AreOne, IsTogether}
use Rattle.omf_linker.specs.Link.Linked.{AreLinked}
use Rattle.omf_linker.proofs.link.linking.linked_modules.Goals as goal

pub returns-in_err-together-clause-linked : goal.returns-in_err-together-clause-linked
returns-in_err-together-clause-linked c =
    let ms = typed_modules c.args.modules.now in
    let text = c.args.text.now in
    let pls = c.in_ok-places.places.placements.items in
    let f = c.in_err-together.field-0.0 in
    let same : c.from_residual-in_err-together.result ≡ Err f = search rules in
    let here = subst (λ ps. IsTogether ms ps c.deref-2.result.now (Err f)) c.deref.ensures.value c.in_err-together.ensures in
    let stored = c.deref-2.ensures.value ∙ c.in_ok-places.ensures.stored in
    subst (λ r. AreLinked ms text r) (sym same) (inr (pls, c.in_ok-places.ensures.placements, subst (λ at. IsTogether ms pls at (Err f)) stored here))

pub returns-clause-linked : goal.returns-clause-linked
returns-clause-linked c =
    let ms = typed_modules c.args.modules.now in
    let pls = c.in_ok-places.places.placements.items in
    record {
      placed = c.in_ok-places.ensures.placements;
      stored = c.in_ok-places.ensures.stored;
      are = subst (λ at. AreOne ms pls at c.in_ok-together.together) c.deref-2.ensures.value (subst (λ ps. AreOne ms ps c.deref-2.result.now c.in_ok-together.together) c.deref.ensures.value c.in_ok-together.ensures);
    }
