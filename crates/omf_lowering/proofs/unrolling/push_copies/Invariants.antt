use Rattle.std.proofs.Common.{◌≡◌, ◌++◌, take}
use Rattle.omf_lowering.specs.Inner.Rolling.{blocks_seen}
use Rattle.omf_lowering.specs.Unrolled.{copied}
use Rattle.omf_lowering.proofs.unrolling.push_copies.Given as goal

abbrev pub invariant-loop-copy : goal.invariant-loop-copy
invariant-loop-copy l = l.records.items ≡ l.fn.records.items ++ copied l.fixup.kind (blocks_seen l.data) l.fixup.locat l.fixup.reference.now (take l.copy-index l.copies)
