use Rattle.std.proofs.Common.{◌∷◌, [], ap, subst}
use Rattle.omf_externals.specs.Names.{names_of, HasMore, IsNameTable}
use Rattle.omf_placement.proofs.Filling.{fill-start, fill-more, fill-end}
use Rattle.omf_externals.proofs.names.NameTable.add_items.Goals as goal

pub loop-public-init : goal.loop-public-init
loop-public-init c = fill-start IsNameTable c.args.self.now _ _ (ap names_of c.into_iter-public-iterator.ensures.into_iter_gives)

pub loop-public-preserved : goal.loop-public-preserved
loop-public-preserved c =
    fill-more IsNameTable c.args.self.now c.loop-public.self c.add_public.new.self (c.in-Some.public.item.name ∷ []) (names_of c.loop-public.public-iterator) _ _
    (ap names_of c.in-Some.ensures.steps)
    (subst (λ x. HasMore c.loop-public.self c.add_public.new.self (x ∷ [])) (ap (λ q. q.item.name) c.public.view_is) c.in_ok-add_public.ensures) c.loop-public.invariant

pub returns : goal.returns
returns c = fill-end IsNameTable c.args.self.now c.loop-public.self _ _ (ap names_of c.in-None.ensures.steps.0) c.loop-public.invariant
