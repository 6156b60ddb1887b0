-- Definitions for the worked examples.
use Rattle.std.specs.Prelude.{ℕ, List, [], ◌∷◌, ◌++◌, Option, map, codes}
use Rattle.omf_records.specs.Values.{Rec}
use Rattle.omf_reloc.specs.Modules.{module_of, using}
use Rattle.omf_reloc.specs.declared.fault.Kind.{Kind}
use Rattle.omf_reloc.specs.declared.fault.ReachFault.{ReachFault}
use Rattle.omf_linking.specs.declared.fault.LinkFault.{LinkFault}
use Rattle.omf_linking.specs.declared.space.stretch.Owner.{Owner}
use Rattle.omf_placement.specs.Entries.{in_words}
use Rattle.omf_lines.specs.Faults.{link_words}
use Rattle.omf_lines.specs.Named.{reach_text}
use Rattle.omf_externals.specs.Unresolved.{label_of}
use Rattle.omf_lines.specs.declared.lines.Aim.{Aim}
use Rattle.omf_lines.specs.declared.spot.Spot.{Spot}
use Rattle.omf_lines.specs.declared.spot.Target.{Target}

-- the line of a fault
abbrev pub line_of : LinkFault → List ℕ
line_of f = in_words (link_words f)

-- a segment of a module
abbrev pub segment_of : ℕ → ℕ → Owner
segment_of j i = record { «module» = j; segment = i }

-- the segment with this index, and an offset in it
abbrev pub spot_of : ℕ → ℕ → Spot
spot_of i x = record { segment = i; offset = x }

-- an entry of a module that a reference is to
abbrev pub entry_of : Kind → ℕ → Target
entry_of kind i = record { kind = kind; index = i }

-- a reference
abbrev pub aim_of : Option Spot → Option Target → Option Owner → Aim
aim_of s to into = record { spot = s; to = to; into = into }

-- two modules, the first of which has a label
abbrev pub two_modules : List (List Rec)
two_modules = map module_of (using ∷ using ∷ [])

abbrev pub one_label : List (List ℕ)
one_label = codes "file \"a.obj\" module 1" ∷ []

-- the line of a fault of a placement of one of these
abbrev pub reach_shown : ℕ → ReachFault → List ℕ
reach_shown j f = label_of one_label j ++ reach_text two_modules j f ++ 10 ∷ []
