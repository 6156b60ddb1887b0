use Rattle.std.proofs.Common.{◌≡◌, ◌++◌, ℕ, List, [], ◌∷◌, ap, rules, subst}
use Rattle.std.specs.Prelude.{map}
use Rattle.omf_records.specs.Values.{At, PublicItem}
use Rattle.omf_find.specs.Nearly.{IsBefore, place}
use Rattle.omf_find.proofs.NearlyLaws.{all_so_far, more_so_far}
use Rattle.omf_find.proofs.near.later_of.Goals as goal

pub loop-public-preserved : goal.loop-public-preserved
loop-public-preserved c =
    let own = c.public-inside.inside.0.1.0 in
    let same : (own.offset, own.name) ≡ place c.in-Some.public = search rules in
    λ ps b.
    more_so_far c.args.offset _ _ _ _ _ (place c.in-Some.public ∷ []) (ap (λ (xs : List (At PublicItem)). map place xs) c.in-Some.ensures.steps)
    (λ qs h. subst (λ (p : ℕ × List ℕ). IsBefore c.args.offset (qs ++ p ∷ []) c.later-best.result) same (c.later-best.ensures qs h)) (c.loop-public.invariant ps b)

pub returns : goal.returns
returns c = λ ps b. all_so_far c.args.offset _ _ _ (ap (λ (xs : List (At PublicItem)). map place xs) c.in-None.ensures.steps.0) (c.loop-public.invariant ps b)
