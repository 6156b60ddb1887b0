-- COMDATs that are not left out, though an earlier module has one of their name (TIS OMF 1.1, "COMDAT": the selection criteria).
use Rattle.std.specs.Prelude.{ℕ, List, [], ◌∷◌, flat_map, length, Option, Some, None, if◌then◌else◌}
use Rattle.omf_frame.specs.Bytes.{with_before}
use Rattle.omf_check.specs.Module.{Module, recs_of}
use Rattle.omf_trimming.specs.Choice.{Marked, allows, first_named, instances}

-- The selection that does not let a linker take one of two instances for the other: that of the first, or else that of the second. None if both let it.
abbrev pub refused_by : Marked → Marked → Option ℕ
refused_by first i = if allows first.selection first i then (if allows i.selection first i then None else Some i.selection) else Some first.selection

-- A COMDAT that is not left out: the number of its module, from 0, its name, and that selection.
pub record ClashItem : Type 0 where
  pub number : ℕ
  pub name : List ℕ
  pub selection : ℕ

abbrev pub clash_by : ℕ → Marked → Option ℕ → List ClashItem
clash_by number i None = []
clash_by number i (Some selection) = record { number = number; name = i.name; selection = selection } ∷ []

-- That of an instance after these, of which the first of its name counts.
abbrev pub refused_after : Option Marked → Marked → Option ℕ
refused_after None i = None
refused_after (Some first) i = refused_by first i

abbrev pub clash_after : ℕ → List Marked → Marked → List ClashItem
clash_after number before i = clash_by number i (refused_after (first_named before i.name) i)

-- Those of a module after others, and those of all modules.
abbrev pub clashes_in : List Module → Module → List ClashItem
clashes_in before m = flat_map (clash_after (length before) (flat_map (λ k. instances (recs_of k.bytes)) before)) (instances (recs_of m.bytes))

abbrev pub clashes : List Module → List ClashItem
clashes ms = with_before clashes_in [] ms
