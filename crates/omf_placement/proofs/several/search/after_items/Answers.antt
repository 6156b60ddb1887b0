use Rattle.std.proofs.Common.{◌+◌, ◌∙◌, sym, ap, ap₂}
use Rattle.omf_placement.specs.Derive.{public_at, publics_at}
use Rattle.omf_placement.specs.Inner.PublicTable.{found_with, found_over}
use Rattle.omf_placement.proofs.several.search.after_items.Goals as goal

pub loop-public-init : goal.loop-public-init
loop-public-init c = ap (λ xs. found_over c.args.name.now c.args.before (publics_at c.args.base xs)) c.into_iter-public-iterator.ensures.into_iter_gives

pub loop-public-preserved : goal.loop-public-preserved
loop-public-preserved c =
    let name = c.args.name.now in
    let base = c.args.base in
    ap (λ f. found_over name f (publics_at base c.next.new.self))
    (c.after_public-found.ensures ∙ ap₂ (λ n o. found_with name c.loop-public.found (public_at n (base.address + o) base.frame)) (ap (λ q. q.item.name) c.public.view_is) (ap (λ q. q.item.offset) c.public.view_is))
    ∙ ap (λ xs. found_over name c.loop-public.found (publics_at base xs)) (sym c.in-Some.ensures.steps) ∙ c.loop-public.invariant

pub returns : goal.returns
returns c = ap (λ xs. found_over c.args.name.now c.loop-public.found (publics_at c.args.base xs)) (sym c.in-None.ensures.steps.0) ∙ c.loop-public.invariant
