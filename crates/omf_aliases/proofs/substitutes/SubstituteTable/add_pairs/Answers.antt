use Rattle.std.proofs.Common.{◌+◌, ◌∷◌, [], subst, take}
use Rattle.std.proofs.lemmas.List.{take_all}
use Rattle.omf_aliases.specs.Inner.Aliases.{HasPairs}
use Rattle.omf_aliases.proofs.AliasLaws.{more-pairs, take-next}
use Rattle.omf_aliases.proofs.substitutes.SubstituteTable.add_pairs.Goals as goal

pub loop-pair-preserved : goal.loop-pair-preserved
loop-pair-preserved c =
    let ps = c.args.pairs.now in
    let i = c.loop-pair.pair-index in
    more-pairs c.args.self.now c.loop-pair.self c.add_pair.new.self (take i ps) (c.pair-item.result ∷ []) (take (i + 1) ps)
    (take-next ps i c.pair-item.result c.pair-item.is c.loop-pair-test.true) c.loop-pair.invariant c.in_ok-add_pair.ensures

pub returns : goal.returns
returns c = subst (HasPairs c.args.self.now c.loop-pair.self) (take_all c.loop-pair.pair-index c.args.pairs.now c.loop-pair-test.false) c.loop-pair.invariant
