use Rattle.std.proofs.Common.{◌∷◌, [], ap, map, refl, subst}
use Rattle.omf_aliases.specs.Inner.Circles.{HasShown}
use Rattle.omf_placement.proofs.Filling.{Adds, fill-start, fill-more, fill-end}
use Rattle.omf_placement.proofs.StepLaws.{next_item, none_left}
use Rattle.omf_aliases.proofs.circles.Circles.put_pairs.Goals as goal

pub loop-pair-init : goal.loop-pair-init
loop-pair-init c ms h = fill-start (HasShown ms) c.args.self.now _ _ refl

pub loop-pair-preserved : goal.loop-pair-preserved
loop-pair-preserved c ms h =
    fill-more (HasShown ms) c.args.self.now c.loop-pair.self c.put_of.new.self (c.pair-item.result.alias ∷ []) _ _ _
    (ap (map (λ p. p.alias)) (next_item c.args.pairs.now c.loop-pair.pair-index c.pair-item.result c.pair-item.is c.loop-pair-test.true)) (subst (λ a. Adds (HasShown ms) c.loop-pair.self c.put_of.new.self (a ∷ [])) (ap (λ p. p.alias) c.pair.view_is) (c.in_ok-put_of.ensures ms h)) (c.loop-pair.invariant ms h)

pub returns : goal.returns
returns c ms h =
    fill-end (HasShown ms) c.args.self.now c.loop-pair.self _ _ (ap (map (λ p. p.alias)) (none_left c.args.pairs.now c.loop-pair.pair-index c.loop-pair-test.false)) (c.loop-pair.invariant ms h)
