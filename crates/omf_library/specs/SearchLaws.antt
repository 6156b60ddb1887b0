-- Laws of the searches of a dictionary, each the contract of a function of the same name.
use Rattle.std.specs.Prelude.{◌≡◌, ℕ, ◌<◌, Bool, List}
use Rattle.omf_library.specs.Hash.{buckets}
use Rattle.omf_library.specs.Dictionary.{IsFoundAfter, block_count, block_of, look_of}
use Rattle.omf_library.specs.declared.dictionary.Look.TheVariants as look
use Rattle.omf_library.specs.declared.search.Rule.{Rule}

-- What a search finds is an entry of the name in one of the blocks.
abbrev pub SearchesFindEntries : Type 0
SearchesFindEntries = (rule : Rule) (sensitive : Bool) (dictionary name : List ℕ) (k page : ℕ) → IsFoundAfter rule sensitive dictionary name k page
    → (number : ℕ) × (bucket : ℕ) × (number < block_count dictionary) × (bucket < buckets) × (look_of sensitive (block_of dictionary number) bucket name ≡ look.Found page)
