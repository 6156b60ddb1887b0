use Rattle.std.proofs.Common.{ℕ, ◌<◌, None}
use Rattle.omf_library.specs.Dictionary.{IsFirstInBlock, block_of}
use Rattle.omf_lib.proofs.finding.first_entry.Given as goal

-- the blocks so far have no entry of the name
abbrev pub invariant-loop-number : goal.invariant-loop-number
invariant-loop-number l = (i : ℕ) → i < l.number → IsFirstInBlock l.dictionary.is_case_sensitive (block_of l.dictionary.bytes.now i) l.name None
