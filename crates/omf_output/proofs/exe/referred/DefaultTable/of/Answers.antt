use Rattle.std.proofs.Common.{◌≡◌, ◌∙◌, ◌+◌, ◌∷◌, ◌++◌, [], ap, arith, get_or, length, subst, sym, take}
use Rattle.std.proofs.lemmas.List.{take_more}
use Rattle.omf_placement.specs.declared.several.pairs.WeakPair.{WeakPair}
use Rattle.omf_output.specs.Inner.Referred.{IsDefaultTable, only_moving, single_at}
use Rattle.omf_output.proofs.DefaultLaws.{whole}
use Rattle.omf_output.proofs.exe.referred.DefaultTable.of.Goals as goal

pub loop-pair-preserved : goal.loop-pair-preserved
loop-pair-preserved c =
    let no_pair : WeakPair = record { weak = 0; substitute = 0 } in
    let single = single_at c.args.bases.now c.args.linkage.now.links c.args.number in
    let xs = c.deref-pair-items.result.now in
    let k = c.loop-pair.pair-index in
    let more : take (k + 1) xs ≡ take k xs ++ get_or xs k no_pair ∷ [] = take_more xs k no_pair c.loop-pair-test.true in
    subst (IsDefaultTable c.add.new.self.by_external single) (sym more)
    (c.in_ok-add.ensures single (take k xs) (sym (c.only_moving.ensures ∙ ap (only_moving c.args.bases.now) c.definer-definer.ensures)) c.loop-pair.invariant)

pub returns : goal.returns
returns c =
    let single = single_at c.args.bases.now c.args.linkage.now.links c.args.number in
    let xs = c.deref-pair-items.result.now in
    subst (IsDefaultTable c.loop-pair.table.by_external single) (whole xs c.loop-pair.pair-index c.loop-pair-test.false ∙ c.deref-pair-items.ensures.value ∙ c.in_ok-pairs.ensures) c.loop-pair.invariant
