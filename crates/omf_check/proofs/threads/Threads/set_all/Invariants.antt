use Rattle.std.proofs.Common.{◌≡◌}
use Rattle.omf_check.specs.Inner.Kept.{set_threads}
use Rattle.omf_check.proofs.threads.Threads.set_all.Given as goal

-- the remaining subrecords set the others
abbrev pub invariant-loop-subrecord : goal.invariant-loop-subrecord
invariant-loop-subrecord l = set_threads l.self l.subrecord-iterator ≡ set_threads l.fn.self l.fn.subrecords
