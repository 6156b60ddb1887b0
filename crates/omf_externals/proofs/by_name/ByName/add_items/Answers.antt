use Rattle.std.proofs.Common.{List, ℕ, ◌∷◌, [], ap, subst}
use Rattle.omf_records.specs.Values.{At, PublicItem}
use Rattle.omf_externals.specs.Names.{names_of}
use Rattle.omf_externals.specs.Unresolved.{HasMore, IsByName, Row, rows_in, spot}
use Rattle.omf_placement.proofs.Filling.{fill-start, fill-more, fill-end}
use Rattle.omf_externals.proofs.by_name.ByName.add_items.Goals as goal

-- publics of a module
abbrev rows : ℕ → List (At PublicItem) → List Row
rows j items = rows_in j (names_of items)

pub loop-public-init : goal.loop-public-init
loop-public-init c = fill-start IsByName c.args.self.now.spots _ _ (ap (rows c.args.number) c.into_iter-public-iterator.ensures.into_iter_gives)

pub loop-public-preserved : goal.loop-public-preserved
loop-public-preserved c =
    let j = c.args.number in
    fill-more IsByName c.args.self.now.spots c.loop-public.self.spots c.add_public.new.self.spots ((c.in-Some.public.item.name, spot j 0) ∷ []) (rows j c.loop-public.public-iterator) _ _
    (ap (rows j) c.in-Some.ensures.steps)
    (subst (λ x. HasMore c.loop-public.self.spots c.add_public.new.self.spots ((x, spot j 0) ∷ [])) (ap (λ q. q.item.name) c.public.view_is) c.in_ok-add_public.ensures) c.loop-public.invariant

pub returns : goal.returns
returns c = fill-end IsByName c.args.self.now.spots c.loop-public.self.spots _ _ (ap (rows c.args.number) c.in-None.ensures.steps.0) c.loop-public.invariant
