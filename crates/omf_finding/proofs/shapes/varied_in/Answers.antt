use Rattle.std.proofs.Common.{◌∙◌, sym, arith}
use Rattle.omf_finding.proofs.MeasureLaws.{fresh-next, fresh-past}
use Rattle.omf_finding.proofs.shapes.varied_in.Goals.{then-is_fresh, else-is_fresh}
use Rattle.omf_finding.proofs.shapes.varied_in.Goals as goal

pub loop-at-preserved : goal.loop-at-preserved
loop-at-preserved c =
    let i = c.args.interval in
    let at = c.loop-at.at in
    let inv = c.loop-at.invariant in
    elim c.if-is_fresh.branch [
      | then-is_fresh w ↦ record {
        count = fresh-next i at c.loop-at.varied c.if-is_fresh.varied (sym c.is_fresh.ensures ∙ w.if-is_fresh.true) inv.count w.varied-is;
        low = omega (arith, w.varied-is, inv.low);
      }
      | else-is_fresh w ↦ record {
        count = w.varied-is ∙ fresh-past i at c.loop-at.varied (sym c.is_fresh.ensures ∙ w.if-is_fresh.false) inv.count;
        low = omega (arith, w.varied-is, inv.low);
      }
    ]
