use Rattle.std.proofs.Common.{sym, subst}
use Rattle.std.specs.Prelude.{All}
use Rattle.omf_linking.specs.Space.Memory.{Lies}
use Rattle.omf_linking.proofs.TurnLaws.{spots_fit}
use Rattle.omf_linking.proofs.turns.intervals_of.Goals as goal

pub loop-j-preserved : goal.loop-j-preserved
loop-j-preserved c =
    let old = c.loop-j.intervals.items in
    spots_fit old c.add_intervals.new.spans.items c.deref.result.now c.in_ok-add_intervals.ensures (subst (All Lies) (sym c.deref.ensures.value) c.in_ok-stretches.ensures.lie) c.loop-j.invariant
