use Rattle.std.proofs.Common.{◌∙◌, sym, arith}
use Rattle.std.proofs.lemmas.List.{take_all}
use Rattle.omf_linking.proofs.turns.are_same.Goals as goal

pub returns : goal.returns
returns c t =
    let i = c.loop-i.i in
    sym (take_all i c.args.some.now c.loop-i-test.false) ∙ c.loop-i.invariant.same ∙ take_all i c.args.others.now (omega (arith, c.loop-i-test.false, c.loop-i.invariant.many))
