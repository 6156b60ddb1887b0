-- The lines of COMDATs that are not left out, though an earlier module has one of their name (TIS OMF 1.1, "COMDAT": the selection criteria; a rule of this profile).
use Rattle.std.specs.Prelude.{ℕ, List, [], ◌∷◌, ◌++◌, flat_map, codes, decimal, ◌==◌, if◌then◌else◌}
use Rattle.omf_check.specs.Module.{Module}
use Rattle.omf_placement.specs.Quoted.{quoted}
use Rattle.omf_externals.specs.Unresolved.{label_of}
use Rattle.omf_trimming.specs.Clashes.{ClashItem, clashes}

-- What a selection that keeps a COMDAT is called.
abbrev pub selection_text : ℕ → List ℕ
selection_text n = if n == 0 then codes "no match" else if n == 2 then codes "same size" else if n == 3 then codes "exact match" else codes "selection " ++ decimal n

-- The line of a COMDAT: its name and its module, and the selection. Modules are named by these labels.
abbrev pub comdat_text : List (List ℕ) → ClashItem → List ℕ
comdat_text labels c = codes "comdat " ++ quoted c.name ++ codes ": " ++ label_of labels c.number

abbrev pub kept_text : ℕ → List ℕ
kept_text selection = codes " is not left out: " ++ selection_text selection ++ 10 ∷ []

abbrev pub clash_line : List (List ℕ) → ClashItem → List ℕ
clash_line labels c = comdat_text labels c ++ kept_text c.selection

-- A line for each, in the order of the modules.
abbrev pub clash_lines : List (List ℕ) → List Module → List ℕ
clash_lines labels ms = flat_map (clash_line labels) (clashes ms)
