use Rattle.std.proofs.Common.{◌≡◌, ◌∙◌, ap, subst, sym}
use Rattle.std.specs.Prelude.{All}
use Rattle.omf_library.specs.Needed.{AreNeeded, IsChained, Offer, offer}
use Rattle.omf_library.specs.Inner.Search.{offered}
use Rattle.omf_library.specs.Inner.Walk.{numbers_from}
use Rattle.omf_library.proofs.NeededLaws.{all-chained, are-needed, on-items}
use Rattle.omf_library.proofs.needed.walk.by_walk.Goals as goal

pub returns-clause-needed : goal.returns-clause-needed
returns-clause-needed c =
    let s = c.in_ok-search.search in
    let w = c.go_on.new.self in
    let same : offered s ≡ offer c.args.modules.now c.args.members.now = ap (λ ms. offer ms s.members.now) c.in_ok-search.ensures.modules ∙ ap (offer c.args.modules.now) c.in_ok-search.ensures.members in
    on-items c.numbers_of.result (AreNeeded (offer c.args.modules.now c.args.members.now)) (numbers_from 0 c.deref.result.now)
    (subst (λ (o : Offer). AreNeeded o (numbers_from 0 c.deref.result.now)) same
    (subst (λ js. AreNeeded (offered s) (numbers_from 0 js)) (sym c.deref.ensures.value) (are-needed (offered s) w.joined.items w.queue.items c.in_ok-go_on.ensures))) c.numbers_of.ensures

pub returns-clause-chained : goal.returns-clause-chained
returns-clause-chained c =
    let s = c.in_ok-search.search in
    let w = c.go_on.new.self in
    let same : offered s ≡ offer c.args.modules.now c.args.members.now = ap (λ ms. offer ms s.members.now) c.in_ok-search.ensures.modules ∙ ap (offer c.args.modules.now) c.in_ok-search.ensures.members in
    on-items c.numbers_of.result (All (IsChained (offer c.args.modules.now c.args.members.now))) (numbers_from 0 c.deref.result.now)
    (subst (λ (o : Offer). All (IsChained o) (numbers_from 0 c.deref.result.now)) same
    (subst (λ js. All (IsChained (offered s)) (numbers_from 0 js)) (sym c.deref.ensures.value) (all-chained (offered s) w.joined.items w.queue.items c.in_ok-go_on.ensures))) c.numbers_of.ensures
