use Rattle.std.proofs.Common.{arith}
use Rattle.omf_dump.proofs.NamingLaws.{one_more}
use Rattle.omf_dump.proofs.facts.set_of.Goals as goal

pub loop-index-preserved : goal.loop-index-preserved
loop-index-preserved c = one_more _ _ c.args.indices.now c.loop-index.index-index 0 (omega arith) c.in_ok-insert.ensures.updates c.loop-index.invariant
