use Rattle.std.proofs.Common.{List}
use Rattle.omf_library.specs.Dictionary.{block_of}
use Rattle.omf_lib.specs.Defining.{Definer, HasUndefinedIn, IsAnyOf}
use Rattle.omf_lib.specs.Keys.{IsKeySet, all_keys}
use Rattle.omf_lib.proofs.undefined.put_blocks.Given as goal

-- whether one of the blocks so far is such
abbrev pub invariant-loop-number : goal.invariant-loop-number
invariant-loop-number g l = (ds : List Definer) → IsKeySet l.keys (all_keys l.dictionary.is_case_sensitive ds)
    → IsAnyOf (λ number b. HasUndefinedIn l.dictionary.is_case_sensitive ds (block_of l.dictionary.bytes.now number) b) l.number l.is_one
