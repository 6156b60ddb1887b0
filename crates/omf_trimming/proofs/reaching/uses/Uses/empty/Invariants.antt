use Rattle.std.proofs.Common.{◌≡◌}
use Rattle.omf_trimming.specs.Inner.Uses.{empty_buckets}
use Rattle.omf_trimming.proofs.reaching.uses.Uses.empty.Given as goal

-- an empty list for each index so far
abbrev pub invariant-loop-index : goal.invariant-loop-index
invariant-loop-index l = l.of_segment.items ≡ empty_buckets l._index
