use Rattle.std.proofs.Common.{arith}
use Rattle.omf_library.proofs.SearchLaws.{next_block, one_more, stopped_low}
use Rattle.omf_library.proofs.search.search.Goals as goal

pub loop-passed-preserved : goal.loop-passed-preserved
loop-passed-preserved c =
    let i = c.loop-passed.invariant in
    record {
      at = next_block c.args.bytes.now c.args.name.now c.loop-passed.passed c.block_count-count.result c.loop-passed.number c.probe_of-probe.result c.block_count-count.ensures c.probe_of-probe.ensures.value i.at;
      inside = omega arith;
      low = c.next_first-first.ensures.low c.probe_of-probe.ensures.bucket (stopped_low (record { is_case_sensitive = c.args.is_case_sensitive; name = c.args.name.now; first = c.loop-passed.first; step = c.probe_of-probe.result.bucket_step }) c.block_of.result.now c.in-Full.stopped c.in-Full.ensures);
      reached = one_more c.args.rule c.args.is_case_sensitive c.args.bytes.now c.args.name.now c.loop-passed.passed c.loop-passed.first c.block_count-count.result c.loop-passed.number c.in-Full.stopped c.next_first-first.result c.probe_of-probe.result
          c.block_of.result.now c.block_count-count.ensures c.probe_of-probe.ensures.value i.at c.block_of.ensures.value i.reached c.in-Full.ensures c.next_first-first.ensures.value;
    }
