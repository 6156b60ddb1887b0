-- The line of a near reference into another frame, by the names of modules and segments (this profile's rule).
use Rattle.std.specs.Prelude.{◌≡◌, ℕ, List, [], ◌∷◌, ◌++◌, Result, OnOk, codes}
use Rattle.omf_output.specs.declared.near.Stray.{Stray}
use Rattle.omf_records.specs.Values.{Rec}
use Rattle.omf_lines.specs.Named.{spot_text, target_text}
use Rattle.omf_externals.specs.Unresolved.{label_of}
use Rattle.omf_lines.specs.declared.lines.Aim.{Aim}

-- Where a near reference is, what it is to, and the segment of an external's public.
abbrev pub near_line : List (List ℕ) → List (List Rec) → ℕ → ℕ → Aim → List ℕ
near_line labels ms j number a = codes "near: " ++ label_of labels j ++ spot_text ms j a.spot number ++ codes ":" ++ target_text ms j a.to a.into ++ codes " is in another frame" ++ 10 ∷ []

-- Of a near reference this leaves open which offset, target and segment the line names.
abbrev pub IsNearLine : List (List ℕ) → List (List Rec) → Stray → List ℕ → Type 0
IsNearLine labels ms stray line = (a : Aim) × (line ≡ near_line labels ms stray.«module» stray.place.number a)

-- A line is written after what a text had, if memory does not run out.
abbrev pub AddsNear : {E : Type 0} → Result (Unit {0}) E → List (List ℕ) → List (List Rec) → Stray → List ℕ → List ℕ → Type 0
AddsNear r labels ms stray old new = OnOk r ((line : List ℕ) × IsNearLine labels ms stray line × (new ≡ old ++ line))
