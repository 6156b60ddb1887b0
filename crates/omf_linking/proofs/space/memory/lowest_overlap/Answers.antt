use Rattle.std.proofs.Common.{◌∙◌, ◌+◌, sym, ap, subst, take}
use Rattle.std.specs.Prelude.{is_some}
use Rattle.omf_linking.proofs.SpaceLaws.LowestLaws.{IsLowestOf, no_stretch, first_of_all, is_none, next_passed, next_taken, all_seen}
use Rattle.omf_linking.proofs.space.memory.lowest_overlap.Goals as goal
use Rattle.omf_linking.proofs.space.memory.lowest_overlap.Goals.{then-is_some, else-is_some}

pub loop-stretch-init : goal.loop-stretch-init
loop-stretch-init c = no_stretch c.args.stretches.now

pub loop-stretch-preserved : goal.loop-stretch-preserved
loop-stretch-preserved c =
    let ss = c.args.stretches.now in
    let i = c.loop-stretch.stretch-index in
    let here = c.is_some.ensures ∙ ap is_some c.owners_at.ensures in
    elim c.if-is_some.branch [
      | then-is_some w ↦ subst (IsLowestOf ss (take (i + 1) ss)) (sym w.lowest-is)
          (next_taken ss i _ c.loop-stretch-test.true c.loop-stretch.lowest w.lower.result w.lower.ensures (sym here ∙ w.if-is_some.true) c.loop-stretch.invariant)
      | else-is_some w ↦ subst (IsLowestOf ss (take (i + 1) ss)) (sym w.lowest-is)
          (next_passed ss i _ c.loop-stretch-test.true c.loop-stretch.lowest (is_none _ (sym here ∙ w.if-is_some.false)) c.loop-stretch.invariant)
    ]

pub returns : goal.returns
returns c = first_of_all c.args.stretches.now c.loop-stretch.lowest (all_seen c.args.stretches.now c.loop-stretch.stretch-index c.loop-stretch.lowest c.loop-stretch-test.false c.loop-stretch.invariant)
