-- Lines about files (a format of this profile).
use Rattle.std.specs.Prelude.{◌≡◌, ℕ, List, [], ◌∷◌, ◌++◌, flat_map, codes}
use Rattle.omf_placement.specs.Quoted.{escaped}

-- A file's name as it is printed: bytes outside 20H to 7EH, the quote and the backslash as \x and two digits.
abbrev pub shown_name : List ℕ → List ℕ
shown_name name = flat_map escaped name

-- The line before what is printed of one of several files: its name and a colon.
abbrev pub title : List ℕ → List ℕ
title name = shown_name name ++ 58 ∷ 10 ∷ []

-- The line of a file for which something failed: what failed, the file's name, and a reason.
abbrev pub failure_line : List ℕ → List ℕ → List ℕ → List ℕ
failure_line what name reason = what ++ 32 ∷ shown_name name ++ codes ": " ++ reason ++ 10 ∷ []

-- A text grows by the line of a file for which something failed, with some reason: the system's own words.
abbrev pub AddsFailure : List ℕ → List ℕ → List ℕ → List ℕ → Type 0
AddsFailure what name old new = (reason : List ℕ) × (new ≡ old ++ failure_line what name reason)
