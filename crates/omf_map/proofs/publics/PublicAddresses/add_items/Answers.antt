use Rattle.std.proofs.Common.{◌+◌, ◌∷◌, [], ap, ap₂, subst}
use Rattle.std.specs.Prelude.{option_map}
use Rattle.omf_map.specs.Inner.PublicAddresses.{HasMore, IsTable}
use Rattle.omf_map.specs.Addresses.{NamedAddress, public_at, publics_at}
use Rattle.omf_placement.proofs.Filling.{fill-start, fill-more, fill-end}
use Rattle.omf_map.proofs.publics.PublicAddresses.add_items.Goals as goal

pub loop-public-init : goal.loop-public-init
loop-public-init c = fill-start IsTable c.args.self.now.by_name _ _ (ap (publics_at c.args.base) c.into_iter-public-iterator.ensures.into_iter_gives)

pub loop-public-preserved : goal.loop-public-preserved
loop-public-preserved c =
    fill-more IsTable c.args.self.now.by_name c.loop-public.self.by_name c.add_public.new.self.by_name (public_at c.args.base c.in-Some.public ∷ []) (publics_at c.args.base c.loop-public.public-iterator) _ _
    (ap (publics_at c.args.base) c.in-Some.ensures.steps)
    (subst (λ (p : NamedAddress). HasMore c.loop-public.self.by_name c.add_public.new.self.by_name (p ∷ []))
    (ap₂ (λ x y. (x, option_map (λ b. b + y) c.args.base)) (ap (λ q. q.item.name) c.public.view_is) (ap (λ q. q.item.offset) c.public.view_is)) c.in_ok-add_public.ensures) c.loop-public.invariant

pub returns : goal.returns
returns c = fill-end IsTable c.args.self.now.by_name c.loop-public.self.by_name _ _ (ap (publics_at c.args.base) c.in-None.ensures.steps.0) c.loop-public.invariant
