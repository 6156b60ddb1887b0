use Rattle.std.proofs.Common.{◌++◌, ◌∷◌, [], ◌∙◌, take, sym, ap, append_assoc}
use Rattle.std.specs.Prelude.{map}
use Rattle.omf_library.specs.Inner.Names.{names_seen}
use Rattle.omf_library.proofs.NeededLaws.{take-map_more}
use Rattle.omf_library.proofs.needed.names.push_substitutes.Goals as goal

pub loop-pair-preserved : goal.loop-pair-preserved
loop-pair-preserved c =
    let pairs = c.args.pairs.now in
    let i = c.loop-pair.pair-index in
    let old = names_seen c.args.names.now.items in
    let x = c.pair-item.result in
    c.in_ok-push_substitute.ensures
    ∙ ap (λ ns. ns ++ x.substitute ∷ []) c.loop-pair.invariant ∙ append_assoc old (take i (map (λ p. p.substitute) pairs)) (x.substitute ∷ [])
    ∙ ap (λ ns. old ++ ns) (sym (take-map_more (λ p. p.substitute) pairs i x c.pair-item.is c.loop-pair-test.true))
