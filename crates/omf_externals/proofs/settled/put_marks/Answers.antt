use Rattle.std.proofs.Common.{◌+◌, ◌∙◌, ap, drop, sym}
use Rattle.omf_externals.specs.Unresolved.{with_marks}
use Rattle.omf_placement.proofs.StepLaws.{none_left}
use Rattle.omf_externals.proofs.SettledLaws.{next_at, no_pair}
use Rattle.omf_externals.proofs.settled.put_marks.Goals as goal

pub loop-pair-preserved : goal.loop-pair-preserved
loop-pair-preserved c =
    let ps = c.args.pairs.now in
    let k = c.loop-pair.pair-index in
    ap (with_marks (drop (k + 1) ps)) c.put_mark.ensures ∙ ap (λ qs. with_marks qs c.loop-pair.marks.items) (sym (next_at ps k no_pair c.loop-pair-test.true)) ∙ c.loop-pair.invariant

pub returns : goal.returns
returns c = ap (λ qs. with_marks qs c.loop-pair.marks.items) (sym (none_left c.args.pairs.now c.loop-pair.pair-index c.loop-pair-test.false)) ∙ c.loop-pair.invariant
