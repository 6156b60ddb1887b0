use Rattle.std.proofs.Common.{arith}
use Rattle.omf_layout.proofs.SeveralLaws.LayingLaws.{some-strictest}
use Rattle.omf_layout.proofs.several.laying.strictest.Goals as goal

pub loop-portion-init : goal.loop-portion-init
loop-portion-init c = record { same = some-strictest c.args.portions.now; some = omega arith }
