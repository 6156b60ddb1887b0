-- The order in which the segments of several modules are laid (this profile's rule).
use Rattle.std.specs.Prelude.{ℕ, List, ◌++◌, map, flat_map, not, ◌==◌, Bool, true, false, Option, Some, None}
use Rattle.std.specs.List.{filter}
use Rattle.omf_records.specs.Values.{Rec}
use Rattle.omf_layout.specs.declared.several.portion.Combination.{Combination}
use Rattle.omf_layout.specs.declared.several.portion.Combination.TheVariants.{Joined, Common, Alone}
use Rattle.omf_layout.specs.declared.several.portion.Portion.{Portion}
use Rattle.omf_layout.specs.Several.Gathered.{gathered}
use Rattle.omf_layout.specs.Several.Portions.{Classed, portions}

-- The runs of one class and name: for each class in order of first appearance, and for each name in it in that order, all segments with both.
abbrev pub runs_in : {A : Type 0} → List (Classed A) → List (List A)
runs_in xs = flat_map gathered (gathered xs)

-- A segment whose name index is 0 has no name. Linkers leave segments out so: such a one takes no part in the order of classes and names, and comes last.
abbrev pub is_named : Portion → Bool
is_named p = not (p.segment.name == 0)

abbrev pub nameless_last : {A B : Type 0} → List (A × (B × Portion)) → List (A × (B × Portion))
nameless_last ps = filter (λ x. is_named x.1.1) ps ++ filter (λ x. not (is_named x.1.1)) ps

abbrev pub runs : List (List Rec) → List (List Portion)
runs ms = runs_in (nameless_last (portions ms))

-- An absolute segment is alone, whatever its C field.
abbrev pub lies_by : Option (ℕ × ℕ) → Combination → Combination
lies_by None c = c
lies_by (Some place) c = Alone

abbrev pub is_same_combination : Combination → Combination → Bool
is_same_combination Joined Joined = true
is_same_combination Common Common = true
is_same_combination Alone Alone = true
is_same_combination _ _ = false

-- The segments of a run that are joined, common, or alone.
abbrev pub combined_by : Combination → List Portion → List Portion
combined_by c run = filter (λ p. is_same_combination c (lies_by p.segment.absolute p.combination)) run

-- A run is laid in that order.
abbrev pub in_order : List Portion → List Portion
in_order run = combined_by Joined run ++ (combined_by Common run ++ combined_by Alone run)

-- The order of all segments, each by its module from 0 and its index from 1.
abbrev pub place_of : Portion → ℕ × ℕ
place_of p = (p.«module», p.index)

abbrev pub order : List (List Rec) → List (ℕ × ℕ)
order ms = map place_of (flat_map in_order (runs ms))
