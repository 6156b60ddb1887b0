use Rattle.std.proofs.Common.{◌≡◌, ℕ, take}
use Rattle.std.specs.BTreeSet.{contains}
use Rattle.std.specs.Ordering.{nat_cmp}
use Rattle.omf_frame.specs.Bytes.{is_one_of}
use Rattle.omf_layout.proofs.raised.set_of.Given as goal

-- the set has the indices so far
abbrev pub invariant-loop-index : goal.invariant-loop-index
invariant-loop-index l = (i : ℕ) → contains nat_cmp l.set i ≡ is_one_of (take l.index-index l.indices) i
