-- Parts of the printed texts (this profile's rule).
use Rattle.std.specs.Prelude.{ℕ, List, [], ◌∷◌, ◌++◌, ◌==◌, codes, decimal, if◌then◌else◌}
use Rattle.omf_placement.specs.Entries.{in_words}

-- A line: words separated by one space, and a line feed.
abbrev pub line : List (List ℕ) → List ℕ
line words = in_words words ++ 10 ∷ []

-- A word and a space.
abbrev pub spaced : List ℕ → List ℕ
spaced word = word ++ 32 ∷ []

-- An index in decimal, or a dash for 0.
abbrev pub index_or_dash : ℕ → List ℕ
index_or_dash i = if i == 0 then codes "-" else decimal i
