-- Definitions for the worked examples.
use Rattle.std.specs.Prelude.{ℕ, List, [], ◌∷◌, map, Option, Some, None, codes}
use Rattle.std.specs.List.{join_with_byte}
use Rattle.omf_placement.specs.declared.frame.Placed.{Placed}
use Rattle.omf_placement.specs.declared.frame.Frame.{Frame}
use Rattle.omf_records.specs.Values.{Rec, Header, Names, Segment, Group}
use Rattle.omf_linking.specs.Locator.LinkEntries.{LinkEntry, Lays, Parts}
use Rattle.omf_linking.specs.Locator.Sparse.{Sparse}
use Rattle.omf_linking.specs.declared.locator.span.Where.{Where}

-- A text of these lines.
abbrev pub lines : List (List ℕ) → List ℕ
lines ls = join_with_byte 10 ls

-- A module of this name with no tables; and the module m of the segments A, B and A, the last of class B.
abbrev pub header : List ℕ → Rec
header name = record { kind = 0x80; contents = Header name }

abbrev pub named_only : List ℕ → List Rec
named_only name = header name ∷ []

abbrev pub segment_named : ℕ → ℕ → Rec
segment_named name class = record { kind = 0x98; contents = Segment (record { attribute = 0x28; absolute = None; size = 2; name = record { within = 6; item = name }; class = record { within = 7; item = class }; overlay = 1 }) }

abbrev pub three_segments : List Rec
three_segments = header (codes "m") ∷ record { kind = 0x96; contents = Names (record { within = 3; item = [] } ∷ record { within = 4; item = codes "A" } ∷ record { within = 6; item = codes "B" } ∷ []) }
    ∷ segment_named 2 1 ∷ segment_named 3 1 ∷ segment_named 2 3 ∷ []

-- What is given to segments alone.
abbrev pub given_segments : List (Option Placed) → Sparse
given_segments ps = record { segments = ps; stored = map (λ p. None) ps; groups = []; externals = [] }

-- The same, with the addresses at which they are stored.
abbrev pub given_stored : List (Option Placed) → List (Option ℕ) → Sparse
given_stored ps ss = record { segments = ps; stored = ss; groups = []; externals = [] }

-- The entry of a line that lays segments.
abbrev pub laid : Parts → Where → Option Frame → Option Where → Option LinkEntry
laid ps start frame stored = Some (Lays ps (record { start = start; frame = frame; stored = stored }))

-- A segment with this attribute byte, length, name and class.
abbrev pub part_of : ℕ → ℕ → ℕ → ℕ → Rec
part_of attribute size name class = record { kind = 0x98; contents = Segment (record { attribute = attribute; absolute = None; size = size; name = record { within = 6; item = name }; class = record { within = 7; item = class }; overlay = 1 }) }

-- The module m of three public segments: 5 bytes of A of class C, at a word; 3 bytes of B of class C, at a paragraph; and 4 bytes of A of class B, at any byte.
-- Its one group B is empty.
abbrev pub three_parts : List Rec
three_parts = header (codes "m") ∷ record { kind = 0x96; contents = Names (record { within = 3; item = codes "A" } ∷ record { within = 5; item = codes "B" } ∷ record { within = 7; item = codes "C" } ∷ []) }
    ∷ part_of 0x48 5 1 3 ∷ part_of 0x68 3 2 3 ∷ part_of 0x28 4 1 2 ∷ record { kind = 0x9A; contents = Group (record { name = record { within = 3; item = 2 }; members = [] }) } ∷ []

-- What is given to its segments, where these are stored, and what is given to its group.
abbrev pub given_parts : List (Option Placed) → List (Option ℕ) → Option (Option Frame) → Sparse
given_parts ps ss g = record { segments = ps; stored = ss; groups = g ∷ []; externals = [] }

abbrev pub unstored : List (Option ℕ)
unstored = None ∷ None ∷ None ∷ []
