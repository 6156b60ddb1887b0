use Rattle.std.proofs.Common.{◌∷◌, [], ap}
use Rattle.omf_placement.specs.Inner.Linkage.{IsSourceTable, source_at, sources_at}
use Rattle.omf_placement.proofs.Filling.{fill-start, fill-more, fill-end}
use Rattle.omf_placement.proofs.SourceLaws.{same-source}
use Rattle.omf_placement.proofs.several.sources.SourceTable.add_items.Goals as goal

pub loop-public-init : goal.loop-public-init
loop-public-init c = fill-start IsSourceTable c.args.self.now _ _ (ap (sources_at c.args.base.now) c.into_iter-public-iterator.ensures.into_iter_gives)

pub loop-public-preserved : goal.loop-public-preserved
loop-public-preserved c =
    let base = c.args.base.now in
    fill-more IsSourceTable c.args.self.now c.loop-public.self c.add_public.new.self (source_at c.in-Some.public.item.name base c.in-Some.public.item.offset ∷ []) (sources_at base c.loop-public.public-iterator) _ _
    (ap (sources_at base) c.in-Some.ensures.steps) (same-source c.loop-public.self c.add_public.new.self _ c.in-Some.public.item.name base _ c.in-Some.public.item.offset (ap (λ q. q.item.name) c.public.view_is) (ap (λ q. q.item.offset) c.public.view_is) c.in_ok-add_public.ensures) c.loop-public.invariant

pub returns : goal.returns
returns c = fill-end IsSourceTable c.args.self.now c.loop-public.self _ _ (ap (sources_at c.args.base.now) c.in-None.ensures.steps.0) c.loop-public.invariant
