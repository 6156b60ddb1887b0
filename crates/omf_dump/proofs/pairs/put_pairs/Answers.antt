use Rattle.std.proofs.Common.{arith}
use Rattle.omf_dump.proofs.PairLaws.{pair_written}
use Rattle.omf_dump.proofs.pairs.put_pairs.Goals as goal

pub loop-index-preserved : goal.loop-index-preserved
loop-index-preserved c =
    let fits = c.in-Some.ensures.fits in
    let size = c.split_at.ensures.back_len in
    let ends = c.loop-index.invariant.ends in
    record {
      written = rw c.split_at.ensures.back (pair_written c.args.tables.now c.args.format c.loop-index.is_first c.loop-index.is_default c.loop-index.within c.in-Some.index c.in-Some.size c.loop-index.rest.now c.loop-index.text.items
          c.open_item.new.text.items c.put_role.new.text.items c.close_item.new.text.items _ c.in-Some.ensures.index c.in_ok-open_item.ensures c.in_ok-put_role.ensures c.in_ok-close_item.ensures c.loop-index.invariant.written);
      ends = omega (arith, fits, size, ends);
    }
