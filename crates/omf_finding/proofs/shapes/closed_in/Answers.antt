use Rattle.std.proofs.Common.{◌≡◌, ◌∙◌, ◌<◌, length, arith}
use Rattle.std.specs.Prelude.{get_or, slice_get, Some}
use Rattle.std.proofs.lemmas.Option.{slice_get-get_or}
use Rattle.omf_finding.proofs.AgreesLaws.{at-index}
use Rattle.omf_finding.proofs.MeasureLaws.{closed-next, closed-past, mark-closed, mark-open}
use Rattle.omf_finding.proofs.shapes.closed_in.Goals.{then-is_closed, else-is_closed}
use Rattle.omf_finding.proofs.shapes.closed_in.Goals as goal

pub loop-at-preserved : goal.loop-at-preserved
loop-at-preserved c =
    let i = c.args.interval in
    let at = c.loop-at.at in
    let ms = i.marks.now in
    let inv = c.loop-at.invariant in
    let low : at < length ms = omega (arith, c.loop-at-test.true) in
    let v = at-index i.values.now at (omega (arith, low, c.requires)) in
    let m : slice_get ms at ≡ Some (get_or ms at 0) = slice_get-get_or ms at 0 low in
    elim c.if-is_closed.branch [
      | then-is_closed w ↦ record {
        count = closed-next i at v.0 (get_or ms at 0) c.loop-at.closed c.if-is_closed.closed v.1 m (mark-closed (get_or ms at 0) c.is_closed.result c.is_closed.ensures w.if-is_closed.true) inv.count w.closed-is;
        low = omega (arith, w.closed-is, inv.low);
      }
      | else-is_closed w ↦ record {
        count = w.closed-is ∙ closed-past i at v.0 (get_or ms at 0) c.loop-at.closed v.1 m (mark-open (get_or ms at 0) c.is_closed.result c.is_closed.ensures w.if-is_closed.false) inv.count;
        low = omega (arith, w.closed-is, inv.low);
      }
    ]
