use Rattle.std.proofs.Common.{arith}
use Rattle.std.proofs.lemmas.Bool.Decides.{nat_tests}
use Rattle.omf_dump.proofs.RowLaws.{row_written}
use Rattle.omf_dump.proofs.item.put_rows.Goals as goal

pub loop-rest-preserved : goal.loop-rest-preserved
loop-rest-preserved c = record {
  written = row_written c.loop-rest.offset _ _ _ _ _ _ _ (grind (arith, nat_tests)) c.min.ensures c.split_at.ensures.front c.split_at.ensures.back c.in_ok-put_row.ensures c.loop-rest.invariant.written;
  ends = omega arith;
}
