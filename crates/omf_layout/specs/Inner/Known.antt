-- The places of the segments of several modules, as far as they are known, segment by segment.
use Rattle.std.specs.Prelude.{ℕ, zero, suc, List, [], ◌∷◌, length, map, Option, None, Some, unwrap_or}
use Rattle.std.specs.List.{range_with_len, enumerate_from}
use Rattle.omf_records.specs.Values.{Rec}
use Rattle.omf_check.specs.Tables.{segments}
use Rattle.omf_placement.specs.declared.frame.Placed.{Placed}
use Rattle.omf_layout.specs.Several.Laying.{Lying}
use Rattle.omf_layout.specs.Several.Placing.{place_in}

-- A row has the place of each segment of a module among laid segments, in index order; and the rows of all modules.
abbrev pub row_in : List Lying → ℕ × List Rec → List (Option Placed)
row_in ls m = map (place_in ls m.0) (range_with_len 1 (length (segments m.1)))

abbrev pub rows_in : List Lying → List (List Rec) → List (List (Option Placed))
rows_in ls ms = map (row_in ls) (enumerate_from 0 ms)

-- The row of a module without a laid segment.
abbrev pub no_places : List Rec → List (Option Placed)
no_places m = map (λ i. None) (range_with_len 1 (length (segments m)))

-- A list with the value at a position changed.
abbrev pub changed_at : {A : Type 0} → ℕ → (A → A) → List A → List A
changed_at i f [] = []
changed_at zero f (x ∷ xs) = f x ∷ xs
changed_at (suc i) f (x ∷ xs) = x ∷ changed_at i f xs

-- A place that counts only if there is none yet.
abbrev pub or_place : Placed → Option Placed → Option Placed
or_place p o = Some (unwrap_or o p)

-- A row with one more place, by the segment's index from 1; and rows with one more laid segment.
abbrev pub with_place : ℕ → Placed → List (Option Placed) → List (Option Placed)
with_place zero p row = row
with_place (suc i) p row = changed_at i (or_place p) row

abbrev pub with_lying : Lying → List (List (Option Placed)) → List (List (Option Placed))
with_lying x rows = changed_at x.0.«module» (with_place x.0.index x.1) rows
