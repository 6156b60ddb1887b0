use Rattle.std.proofs.Common.{◌≡◌}
use Rattle.omf_lowering.specs.Inner.Rolling.{blocks_seen}
use Rattle.omf_lowering.specs.Unrolled.{after_subrecords}
use Rattle.omf_lowering.proofs.unrolling.Unrolling.take_all.Given as goal

-- with the subrecords that are left, all
abbrev pub invariant-loop-next : goal.invariant-loop-next
invariant-loop-next l = after_subrecords l.kind (blocks_seen l.data) l.self l.next-iterator ≡ after_subrecords l.kind (blocks_seen l.data) l.fn.self l.fn.subrecords
