use Rattle.std.proofs.Common.{ℕ, ◌<◌}
use Rattle.omf_library.specs.Dictionary.{HasOther}
use Rattle.omf_library.proofs.dictionary.first_in_block.Given as goal

-- the buckets so far have no entry of the name
abbrev pub invariant-loop-bucket : goal.invariant-loop-bucket
invariant-loop-bucket l = (i : ℕ) → i < l.bucket → HasOther l.is_case_sensitive l.block i l.name
