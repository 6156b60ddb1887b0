use Rattle.std.proofs.Common.{◌≡◌, List}
use Rattle.omf_library.specs.Dictionary.{block_of}
use Rattle.omf_lib.specs.Defining.{Definer, IsAnyOf, is_undefined_at}
use Rattle.omf_lib.specs.Keys.{IsKeySet, all_keys}
use Rattle.omf_lib.proofs.undefined.put_block.Given as goal

-- whether one of the buckets so far is such
abbrev pub invariant-loop-bucket : goal.invariant-loop-bucket
invariant-loop-bucket l = (ds : List Definer) → IsKeySet l.keys (all_keys l.dictionary.is_case_sensitive ds)
    → IsAnyOf (λ bucket b. is_undefined_at l.dictionary.is_case_sensitive ds (block_of l.dictionary.bytes.now l.number) bucket ≡ b) l.bucket l.is_one
