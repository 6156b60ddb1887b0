use Rattle.std.proofs.Common.{◌++◌, ◌∷◌, [], ◌∙◌, take, sym, ap, append_assoc}
use Rattle.std.specs.Prelude.{map}
use Rattle.omf_library.specs.Inner.Names.{names_seen}
use Rattle.omf_library.proofs.NeededLaws.{take-map_more}
use Rattle.omf_library.proofs.needed.names.push_aliases.Goals as goal

pub loop-pair-preserved : goal.loop-pair-preserved
loop-pair-preserved c =
    let pairs = c.args.pairs.now in
    let i = c.loop-pair.pair-index in
    let old = names_seen c.args.names.now.items in
    let x = c.pair-item.result in
    c.in_ok-push_alias.ensures
    ∙ ap (λ ns. ns ++ x.alias ∷ []) c.loop-pair.invariant ∙ append_assoc old (take i (map (λ p. p.alias) pairs)) (x.alias ∷ [])
    ∙ ap (λ ns. old ++ ns) (sym (take-map_more (λ p. p.alias) pairs i x c.pair-item.is c.loop-pair-test.true))
