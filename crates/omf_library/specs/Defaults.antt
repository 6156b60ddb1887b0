-- The libraries that modules ask for (TIS OMF 1.1, "COMENT", class 9F: default library search name; class 81 is the one that it replaced).
use Rattle.std.specs.Prelude.{ℕ, List, [], ◌∷◌, flat_map, filter, not, ◌==◌, ◌||◌, Bool, if◌then◌else◌, bytes_eq}
use Rattle.omf_records.specs.Values.{Rec, Contents, Comment}
use Rattle.omf_check.specs.Module.{Module, recs_of}

-- The name in a comment of class 9FH or 81H, which is its whole text.
abbrev pub asks : ℕ → Bool
asks class = (class == 0x9F) || (class == 0x81)

abbrev pub asked_in : Contents → List (List ℕ)
asked_in (Comment byte class text) = if asks class then text ∷ [] else []
asked_in _ = []

abbrev pub asked_by : List Rec → List (List ℕ)
asked_by m = flat_map (λ r. asked_in r.contents) m

-- Names, each only where it comes first.
abbrev pub once : List (List ℕ) → List (List ℕ)
once [] = []
once (x ∷ xs) = x ∷ filter (λ y. not (bytes_eq x y)) (once xs)

-- The names that modules ask for, in order, each once.
abbrev pub asked : List Module → List (List ℕ)
asked ms = once (flat_map (λ m. asked_by (recs_of m.bytes)) ms)
