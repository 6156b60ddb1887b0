use Rattle.std.proofs.Common.{ℕ, ◌<◌}
use Rattle.omf_library.specs.Dictionary.{HasOther, block_of}
use Rattle.omf_lib.proofs.finding.first_in_block.Given as goal

-- the buckets so far have no entry of the name
abbrev pub invariant-loop-bucket : goal.invariant-loop-bucket
invariant-loop-bucket l = (i : ℕ) → i < l.bucket → HasOther l.dictionary.is_case_sensitive (block_of l.dictionary.bytes.now l.number) i l.name
