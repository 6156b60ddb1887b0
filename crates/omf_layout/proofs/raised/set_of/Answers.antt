use Rattle.std.proofs.Common.{arith}
use Rattle.omf_layout.proofs.RaisedLaws.{one-more}
use Rattle.omf_layout.proofs.raised.set_of.Goals as goal

pub loop-index-preserved : goal.loop-index-preserved
loop-index-preserved c = one-more _ _ c.args.indices.now c.loop-index.index-index 0 (omega arith) c.in_ok-insert.ensures.updates c.loop-index.invariant
