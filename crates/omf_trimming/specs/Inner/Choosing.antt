-- The choice, as the code makes it.
use Rattle.std.specs.Prelude.{◌≡◌, ℕ, List, [], ◌∷◌, ◌++◌, Option, Some, None, if◌then◌else◌}
use Rattle.std.specs.Borrow.{Bor}
use Rattle.std.specs.BTreeMap.{BTreeMap, get_by}
use Rattle.omf_names.specs.Names.{name_cmp}
use Rattle.omf_records.specs.Values.{Rec}
use Rattle.omf_lowering.specs.Marks.{selection_by}
use Rattle.omf_trimming.specs.Choice.{Marked, first_named, is_left_out, marked_after, marked_from, marked_if, past_threads}
use Rattle.omf_trimming.specs.declared.choice.marked.Begun.{Begun}
use Rattle.omf_trimming.specs.declared.choice.marked.Begun.TheVariants.{Named, Nothing, Segment}

-- The item of an option, as a list.
abbrev pub option_list : {A : Type 0} → Option A → List A
option_list None = []
option_list (Some a) = a ∷ []

-- The instance whose SEGDEF and PUBDEF are the last records.
abbrev pub marked_named : List Rec → ℕ → ℕ → Option (List ℕ) → List Rec → List Marked
marked_named m segment size name [] = []
marked_named m segment size name (mark ∷ rest) = marked_if m segment size name (selection_by mark.contents)

-- The instance that the last records begin.
abbrev pub begun_rest : List Rec → ℕ → Begun → List Rec → List Marked
begun_rest m count Nothing left = []
begun_rest m count (Segment size) left = marked_after m count size left
begun_rest m count (Named segment size name) left = marked_named m segment size (Some name.now) left

-- The instance that a mark with this selection ends.
abbrev pub ended : List Rec → Begun → Option ℕ → List Marked
ended m (Named segment size name) selection = marked_if m segment size (Some name.now) selection
ended m _ selection = []

-- The instances to come.
abbrev pub to_come : List Rec → ℕ → Begun → List Rec → List Marked
to_come m count b left = begun_rest m count b (past_threads left) ++ marked_from m count (past_threads left)

-- A table has the first of these instances for each name.
abbrev pub AreFirsts : BTreeMap (Bor (List ℕ)) Marked → List Marked → Type 0
AreFirsts table before = (name : List ℕ) → get_by (λ k. name_cmp name k.now) table ≡ first_named before name

-- The segment of an instance that is left out.
abbrev pub segment_if : List Marked → Marked → List ℕ
segment_if before i = if is_left_out before i then i.segment ∷ [] else []
