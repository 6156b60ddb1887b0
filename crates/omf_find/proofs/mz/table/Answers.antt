use Rattle.std.proofs.Common.{◌<◌, arith}
use Rattle.omf_find.proofs.MzLaws.{one_word}
use Rattle.omf_find.proofs.mz.table.Goals as goal

pub loop-left-preserved : goal.loop-left-preserved
loop-left-preserved c =
    let some : 0 < c.loop-left.left = omega (arith, c.loop-left-test.true) in (
      one_word _ _ _ _ _ _ _ some c.entry.ensures c.in_ok-push.ensures.items c.loop-left.invariant.0,
      omega (arith, c.loop-left.invariant.1, some),
    )
