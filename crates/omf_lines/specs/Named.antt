-- The lines of faults of modules, by the names of files, modules, segments, groups and externals (a rule of this profile). Modules are counted from 0 here, the
-- entries of a module's tables from 1. A module is named by its label, or if it has none by its number from 1.
use Rattle.std.specs.Prelude.{◌≡◌, ℕ, List, [], ◌∷◌, ◌++◌, Option, Some, None, option_and_then, option_map, unwrap_or, slice_get, codes, decimal}
use Rattle.omf_records.specs.Values.{Rec}
use Rattle.omf_placement.specs.Quoted.{hex, quoted}
use Rattle.omf_placement.specs.declared.several.fault.DeriveFault.TheVariants as derive
use Rattle.omf_reloc.specs.declared.fault.Cause.{Cause}
use Rattle.omf_reloc.specs.declared.fault.Kind.{Kind}
use Rattle.omf_reloc.specs.declared.fault.Kind.TheVariants as kinds
use Rattle.omf_reloc.specs.declared.fault.ReachFault.{ReachFault}
use Rattle.omf_reloc.specs.declared.fault.ReachFault.TheVariants as reach
use Rattle.omf_linking.specs.Locator.Keys.{entry_name}
use Rattle.omf_linking.specs.declared.fault.LinkFault.{LinkFault}
use Rattle.omf_linking.specs.declared.fault.LinkFault.TheVariants as link
use Rattle.omf_linking.specs.declared.space.fault.MemoryFault.TheVariants as space
use Rattle.omf_linking.specs.declared.space.stretch.Owner.{Owner}
use Rattle.omf_cmd.specs.FaultLine.{cause_name, fault_line as run_line}
use Rattle.omf_cmd.specs.declared.fault.RunFault.TheVariants as run
use Rattle.omf_lines.specs.TextLines.{text_lines}
use Rattle.omf_externals.specs.Unresolved.{AreLines, label_of}
use Rattle.omf_lines.specs.declared.lines.Aim.{Aim}
use Rattle.omf_lines.specs.declared.spot.Spot.{Spot}
use Rattle.omf_lines.specs.declared.spot.Target.{Target}

-- ---- parts of lines

-- The name of an entry of a module's table, if it has one.
abbrev pub name_at : List (List Rec) → ℕ → Kind → ℕ → Option (List ℕ)
name_at ms j kind i = option_and_then (λ m. entry_name m kind i) (slice_get ms j)

-- A name after a space; nothing for none.
abbrev pub after_space : Option (List ℕ) → List ℕ
after_space None = []
after_space (Some name) = 32 ∷ quoted name

-- A segment of a module: its name, or its index if it has none.
abbrev pub segment_text : List (List Rec) → ℕ → ℕ → List ℕ
segment_text ms j i = codes " segment " ++ unwrap_or (option_map quoted (name_at ms j kinds.Segment i)) (decimal i)

-- A module, and a segment of it.
abbrev pub owner_text : List (List ℕ) → List (List Rec) → Owner → List ℕ
owner_text labels ms o = label_of labels o.«module» ++ segment_text ms o.«module» o.segment

-- Where a part of a module is: the segment and the offset of its data, or the number of its record.
abbrev pub spot_text : List (List Rec) → ℕ → Option Spot → ℕ → List ℕ
spot_text ms j None number = codes " record " ++ decimal number
spot_text ms j (Some s) number = segment_text ms j s.segment ++ codes " offset " ++ hex 8 s.offset

-- An entry of a module that a reference is to: an external by its name, a segment or a group by its name or, if it has none, its index.
abbrev pub entry_text : List (List Rec) → ℕ → Kind → ℕ → List ℕ
entry_text ms j kinds.External i = after_space (name_at ms j kinds.External i)
entry_text ms j kinds.Segment i = segment_text ms j i
entry_text ms j kinds.Group i = codes " group " ++ unwrap_or (option_map quoted (name_at ms j kinds.Group i)) (decimal i)

abbrev pub to_text : List (List Rec) → ℕ → Option Target → List ℕ
to_text ms j None = []
to_text ms j (Some t) = entry_text ms j t.kind t.index

-- The segment of the public that an external is at.
abbrev pub in_text : List (List Rec) → Option Owner → List ℕ
in_text ms None = []
in_text ms (Some o) = codes " in" ++ segment_text ms o.«module» o.segment

-- What a reference is to.
abbrev pub target_text : List (List Rec) → ℕ → Option Target → Option Owner → List ℕ
target_text ms j to into = to_text ms j to ++ in_text ms into

-- ---- lines

-- An external whose address is too high.
abbrev pub high_line : List (List ℕ) → List (List Rec) → ℕ → ℕ → List ℕ
high_line labels ms j i = label_of labels j ++ codes " external " ++ decimal i ++ codes " TooHigh" ++ after_space (name_at ms j kinds.External i) ++ 10 ∷ []

-- What a module lacks: a text has no line for a segment, or gives a group no frame.
abbrev pub missing_front : Kind → List ℕ
missing_front kinds.Segment = codes ": no line for segment "
missing_front kinds.Group = codes ": no frame for group "
missing_front kinds.External = codes ": no place for external "

abbrev pub missing_text : List (List Rec) → ℕ → Kind → ℕ → List ℕ
missing_text ms j kind i = missing_front kind ++ decimal i ++ after_space (name_at ms j kind i)

-- Any other fault of a placement has the words of `omf`.
abbrev pub reach_text : List (List Rec) → ℕ → ReachFault → List ℕ
reach_text ms j (reach.Missing kind i) = missing_text ms j kind i
reach_text ms j f = 32 ∷ run_line (run.Reach f)

-- A reference that does not fit its location: where it is, why, what it is to, and the segment of an external's public.
abbrev pub far_line : List (List ℕ) → List (List Rec) → ℕ → ℕ → Cause → Aim → List ℕ
far_line labels ms j number cause a = label_of labels j ++ spot_text ms j a.spot number ++ codes ": TooFar " ++ cause_name cause ++ target_text ms j a.to a.into ++ 10 ∷ []

-- A fault of a module's placement. Of a reference this leaves open which offset, target and segment the line names.
abbrev pub IsReachLine : List (List ℕ) → List (List Rec) → ℕ → ReachFault → List ℕ → Type 0
IsReachLine labels ms j (reach.TooFar number within cause) line = (a : Aim) × (line ≡ far_line labels ms j number cause a)
IsReachLine labels ms j f line = line ≡ label_of labels j ++ reach_text ms j f ++ 10 ∷ []

-- What is before the line of a fault of a module's placement: the lines of names, if a text has no line for a segment or no frame for a group. A name is
-- wrong whatever the addresses are.
abbrev pub AreBefore : List (List ℕ) → List (List Rec) → List ℕ → ReachFault → List ℕ → Type 0
AreBefore labels ms text (reach.Missing kind i) lines = AreLines labels ms text lines
AreBefore labels ms text f lines = lines ≡ []

-- Two modules with a start address.
abbrev pub starts_line : List (List ℕ) → ℕ → ℕ → List ℕ
starts_line labels j k = codes "two starts: " ++ label_of labels j ++ codes " and " ++ label_of labels k ++ 10 ∷ []

-- A segment with a byte beyond the last address.
abbrev pub beyond_line : List (List ℕ) → List (List Rec) → Owner → List ℕ
beyond_line labels ms o = owner_text labels ms o ++ codes ": beyond the last address" ++ 10 ∷ []

-- Two segments with a byte at one address.
abbrev pub overlap_line : List (List ℕ) → List (List Rec) → ℕ → Owner → Owner → List ℕ
overlap_line labels ms a s t = owner_text labels ms s ++ codes " overlaps " ++ owner_text labels ms t ++ codes " at " ++ hex 8 a ++ 10 ∷ []

-- A byte at an address that a form does not have, after its segment.
abbrev pub outside_front : List (List ℕ) → List (List Rec) → Option Owner → List ℕ
outside_front labels ms None = []
outside_front labels ms (Some o) = owner_text labels ms o ++ codes ": "

abbrev pub outside_line : List (List ℕ) → List (List Rec) → ℕ → Option Owner → List ℕ
outside_line labels ms a o = outside_front labels ms o ++ codes "outside the range at " ++ hex 8 a ++ 10 ∷ []

-- The lines of a fault of modules at the placements of a link text: a line for each name without a public or with more than one, if it is about such a name; one
-- line for any other of modules; two for one of a line of the text. Other faults have none.
abbrev pub HasLines : List (List ℕ) → List (List Rec) → List ℕ → LinkFault → List ℕ → Type 0
HasLines labels ms text (link.External (derive.Undefined j i)) lines = AreLines labels ms text lines
HasLines labels ms text (link.External (derive.Twice j i)) lines = AreLines labels ms text lines
HasLines labels ms text (link.External (derive.TooHigh j i)) lines = lines ≡ high_line labels ms j i
HasLines labels ms text (link.Reach j f) lines = (names line : List ℕ) × AreBefore labels ms text f names × IsReachLine labels ms j f line × (lines ≡ names ++ line)
HasLines labels ms text (link.Starts j k) lines = lines ≡ starts_line labels j k
HasLines labels ms text (link.Space (space.Beyond o)) lines = lines ≡ beyond_line labels ms o
HasLines labels ms text (link.Space (space.Overlap a s t)) lines = lines ≡ overlap_line labels ms a s t
HasLines labels ms text (link.Line n w) lines = lines ≡ text_lines ms text n w
HasLines labels ms text f lines = lines ≡ []
