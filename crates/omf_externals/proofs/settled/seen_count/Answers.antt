use Rattle.std.proofs.Common.{arith}
use Rattle.omf_check.specs.Module.{recs_of}
use Rattle.omf_externals.proofs.SettledLaws.{not_seen}
use Rattle.omf_externals.proofs.settled.seen_count.Goals as goal

pub returns-then-external-externals : goal.returns-then-external-externals
returns-then-external-externals c = λ among h k. not_seen among (recs_of c.args.«module».now.bytes) c.args.external (omega (arith, c.if-external-externals.true, c.externals.ensures.count))
