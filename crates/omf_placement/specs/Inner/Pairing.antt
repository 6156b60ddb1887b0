-- The indices and the pairs at the front of a comment's text.
use Rattle.std.specs.Prelude.{ℕ, ◌+◌, ◌-◌, ◌*◌, List, [], ◌∷◌, nat_lt, Option, Some, None, if◌then◌else◌}
use Rattle.omf_placement.specs.declared.several.pairs.WeakPair.{WeakPair}
use Rattle.omf_placement.specs.Weak.{indices, paired}

-- The index at the front, and its size in bytes.
abbrev pub front_index : List ℕ → Option (ℕ × ℕ)
front_index [] = None
front_index (a ∷ []) = if nat_lt a 128 then Some (a, 1) else None
front_index (a ∷ b ∷ bytes) = if nat_lt a 128 then Some (a, 1) else Some ((a - 128) * 256 + b, 2)

-- A pair, and those of the text after it.
abbrev pub pairs_after : Option (WeakPair × List ℕ) → List WeakPair
pairs_after None = []
pairs_after (Some r) = r.0 ∷ paired (indices r.1)
