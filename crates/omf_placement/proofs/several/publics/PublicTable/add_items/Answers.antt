use Rattle.std.proofs.Common.{◌+◌, ◌∷◌, [], ap}
use Rattle.omf_placement.specs.Derive.{public_at, publics_at}
use Rattle.omf_placement.specs.Inner.PublicTable.{IsTable}
use Rattle.omf_placement.proofs.Filling.{fill-start, fill-more, fill-end}
use Rattle.omf_placement.proofs.TableLaws.{same-public}
use Rattle.omf_placement.proofs.several.publics.PublicTable.add_items.Goals as goal

pub loop-public-init : goal.loop-public-init
loop-public-init c = fill-start IsTable c.args.self.now.by_name _ _ (ap (publics_at c.args.base) c.into_iter-public-iterator.ensures.into_iter_gives)

pub loop-public-preserved : goal.loop-public-preserved
loop-public-preserved c =
    let address = c.args.base.address in
    let frame = c.args.base.frame in
    fill-more IsTable c.args.self.now.by_name c.loop-public.self.by_name c.add_public.new.self.by_name (public_at c.in-Some.public.item.name (address + c.in-Some.public.item.offset) frame ∷ []) (publics_at c.args.base c.loop-public.public-iterator) _ _
    (ap (publics_at c.args.base) c.in-Some.ensures.steps) (same-public c.loop-public.self.by_name c.add_public.new.self.by_name _ c.in-Some.public.item.name _ (address + c.in-Some.public.item.offset) frame (ap (λ q. q.item.name) c.public.view_is) (ap (λ q. address + q.item.offset) c.public.view_is) c.in_ok-add_public.ensures) c.loop-public.invariant

pub returns : goal.returns
returns c = fill-end IsTable c.args.self.now.by_name c.loop-public.self.by_name _ _ (ap (publics_at c.args.base) c.in-None.ensures.steps.0) c.loop-public.invariant
