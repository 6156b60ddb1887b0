use Rattle.std.proofs.Common.{◌≡◌, ◌∙◌, ◌+◌, ◌∷◌, ◌++◌, [], get_or, subst, sym, take}
use Rattle.std.proofs.lemmas.List.{take_all, take_more}
use Rattle.omf_placement.specs.declared.several.pairs.WeakPair.{WeakPair}
use Rattle.omf_aliases.specs.Inner.Aliases.{IsOwnTable}
use Rattle.omf_aliases.proofs.own.OwnDefaults.of.Goals as goal

pub loop-pair-preserved : goal.loop-pair-preserved
loop-pair-preserved c =
    let no_pair : WeakPair = record { weak = 0; substitute = 0 } in
    let xs = c.deref-pair-items.result.now in
    let k = c.loop-pair.pair-index in
    let more : take (k + 1) xs ≡ take k xs ++ get_or xs k no_pair ∷ [] = take_more xs k no_pair c.loop-pair-test.true in
    subst (IsOwnTable c.add.new.self.by_external) (sym more) (c.in_ok-add.ensures (take k xs) c.loop-pair.invariant)

pub returns : goal.returns
returns c =
    let xs = c.deref-pair-items.result.now in
    subst (IsOwnTable c.loop-pair.table.by_external) (take_all c.loop-pair.pair-index xs c.loop-pair-test.false ∙ c.deref-pair-items.ensures.value ∙ c.in_ok-pairs.ensures) c.loop-pair.invariant
