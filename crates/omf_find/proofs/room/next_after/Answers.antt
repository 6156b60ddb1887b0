use Rattle.std.proofs.Common.{arith}
use Rattle.std.proofs.lemmas.List.{get_or_default}
use Rattle.omf_find.proofs.RoomLaws.{after_row, after_all}
use Rattle.omf_find.proofs.room.next_after.Goals as goal

pub loop-row-preserved : goal.loop-row-preserved
loop-row-preserved c =
    let rows = c.args.rows.now in
    let i = c.loop-row.row-index in
    let low = c.loop-row-test.true in
    record {
      end = omega (arith, c.loop-row.invariant.end, c.max-next.ensures);
      rows = after_row rows i _ c.loop-row.next c.from.result c.saturating_add.result c.max-next.result (get_or_default rows i _ _ low) low c.from.ensures c.saturating_add.ensures c.max-next.ensures c.loop-row.invariant.rows;
    }

pub returns-clause-rows : goal.returns-clause-rows
returns-clause-rows c = after_all c.args.rows.now c.loop-row.row-index c.loop-row.next c.loop-row-test.false c.loop-row.invariant.rows
