-- The steps of parsing a placement text, and of resolving its draft.
use Rattle.std.specs.Prelude.{ℕ, List, [], ◌∷◌, ◌++◌, filter_map, Option, Some, None, Result, ◌==◌}
use Rattle.std.specs.List.{enumerate_from, slice_split}
use Rattle.omf_placement.specs.PlacementText.{unresolved_group, Draft, resolved_group}
use Rattle.omf_placement.specs.Inner.Names.{ok_or_first}
use Rattle.omf_placement.specs.declared.entry.Entry.TheVariants as code
use Rattle.omf_placement.specs.declared.entry.Entry as written
use Rattle.omf_placement.specs.Entries.{Entry, Blank, SegmentEntry, GroupEntry, ExternalEntry}
use Rattle.omf_placement.specs.declared.frame.Frame.{Frame}
use Rattle.omf_records.specs.Values.{Rec}
use Rattle.omf_placement.specs.Placement.{Placed}

-- an entry, by its representation in the code
abbrev pub seen : written.Entry → Entry
seen code.Blank = Blank
seen (code.Segment p) = SegmentEntry p
seen (code.Group f) = GroupEntry f
seen (code.External p) = ExternalEntry p

-- the parts of the remaining text, split at a byte
abbrev pub parts_after : ℕ → Option (List ℕ) → List (List ℕ)
parts_after byte None = []
parts_after byte (Some text) = slice_split (λ c. c == byte) text

-- a draft with the entry on one more line
abbrev pub with_entry : Draft → ℕ → Entry → Draft
with_entry d n Blank = d
with_entry d n (SegmentEntry p) = record { segments = d.segments ++ p ∷ []; groups = d.groups; externals = d.externals }
with_entry d n (GroupEntry f) = record { segments = d.segments; groups = d.groups ++ (n, f) ∷ []; externals = d.externals }
with_entry d n (ExternalEntry p) = record { segments = d.segments; groups = d.groups; externals = d.externals ++ p ∷ [] }

-- the frames of group entries, of which the first is the k-th; or the line of the first whose frame cannot be found
abbrev pub frames_from : List Rec → List Placed → ℕ → List (ℕ × Option Frame) → Result (List Frame) ℕ
frames_from m segments k groups = let numbered = enumerate_from k groups in
    ok_or_first (filter_map (resolved_group m segments) numbered) (filter_map (unresolved_group m segments) numbered)
