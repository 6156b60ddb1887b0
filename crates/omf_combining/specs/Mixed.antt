-- Parts of one segment that are 16-bit and 32-bit (this profile's rule). Parts of one name and class that combine are one segment, whose descriptor has one
-- default size of operands and addresses (TIS OMF 1.1, "SEGDEF", C field and P bit): in the other parts a processor reads other instructions than were written.
use Rattle.std.specs.Prelude.{ℕ, List, [], ◌∷◌, Bool, not, ◌==◌, find, filter_map, Option, Some, None, option_map, option_and_then, slice_get, if◌then◌else◌}
use Rattle.std.specs.Option.{option_or}
use Rattle.omf_check.specs.Tables.{attributes, entry}
use Rattle.omf_layout.specs.Several.Order.{combined_by, runs}
use Rattle.omf_layout.specs.declared.several.portion.Combination.{Combination}
use Rattle.omf_layout.specs.declared.several.portion.Combination.TheVariants.{Joined, Common}
use Rattle.omf_layout.specs.declared.several.portion.Portion.{Portion}
use Rattle.omf_records.specs.Values.{Rec, is_use32}
use Rattle.omf_combining.specs.declared.mixed.CodePart.{CodePart}

-- One of two is 16-bit and the other 32-bit.
abbrev pub differs : CodePart → CodePart → Bool
differs a b = if a.is_use32 then not b.is_use32 else b.is_use32

-- The first of several, and the first after it that differs from it.
abbrev pub mixed : List CodePart → Option (CodePart × CodePart)
mixed [] = None
mixed (x ∷ xs) = option_map (λ y. (x, y)) (find (differs x) xs)

-- A segment of one of several modules, by its attribute byte. None if it has no byte: then it has no code.
abbrev pub code_part : Portion → ℕ → CodePart
code_part p attribute = record { «module» = p.«module»; segment = p.index; is_use32 = is_use32 attribute }

abbrev pub part_at : List (List Rec) → Portion → Option CodePart
part_at ms p =
    if p.segment.length == 0 then None
    else option_map (code_part p) (option_and_then (λ m. entry (attributes m) p.index) (slice_get ms p.«module»))

-- Of the segments of one class and name: those that are joined (C = 2, 4, 5, 7), and those that are common (C = 6). An absolute one is neither.
abbrev pub mixed_in : List (List Rec) → Combination → List Portion → Option (CodePart × CodePart)
mixed_in ms c run = mixed (filter_map (part_at ms) (combined_by c run))

abbrev pub mixed_run : List (List Rec) → List Portion → Option (CodePart × CodePart)
mixed_run ms run = option_or (mixed_in ms Joined run) (mixed_in ms Common run)

-- The first two parts of a segment that differ, in the order of the classes and names.
abbrev pub first : {A : Type 0} → List A → Option A
first [] = None
first (x ∷ xs) = Some x

abbrev pub first_mixed : List (List Rec) → Option (CodePart × CodePart)
first_mixed ms = first (filter_map (mixed_run ms) (runs ms))
