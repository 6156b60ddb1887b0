-- Marks of weak externals, by their indices.
use Rattle.std.specs.Prelude.{◌≡◌, ℕ, ◌≤◌, List, slice_index_or, Bool, false}
use Rattle.omf_frame.specs.Bytes.{is_one_of}

abbrev pub is_marked : List Bool → ℕ → Bool
is_marked marks i = slice_index_or marks i false

-- Up to an index n exactly these indices are marked.
abbrev pub AreMarks : List ℕ → ℕ → List Bool → Type 0
AreMarks weak n marks = (i : ℕ) → i ≤ n → is_marked marks i ≡ is_one_of weak i
