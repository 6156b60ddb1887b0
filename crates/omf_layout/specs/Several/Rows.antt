-- Definitions for the worked examples.
use Rattle.std.specs.Prelude.{ℕ, ◌*◌, List, [], ◌∷◌, ◌++◌, map, flat_map, Option, option_map}
use Rattle.omf_layout.specs.declared.options.Frames.{Frames}
use Rattle.omf_placement.specs.declared.frame.Frame.{Frame}
use Rattle.omf_placement.specs.declared.frame.Placed.{Placed}
use Rattle.omf_records.specs.Values.{Rec}
use Rattle.omf_layout.specs.Rows.{module_of}
use Rattle.omf_layout.specs.Several.Laying.{arranged}
use Rattle.omf_layout.specs.Several.Order.{place_of}
use Rattle.omf_layout.specs.Several.Placing.{arranged_places}

-- A module of these records, with the names "", A, B and C at the indices 1 to 4.
abbrev pub of_records : List (List ℕ) → List Rec
of_records records = module_of (0x80 ∷ 0x03 ∷ 0x00 ∷ 0x01 ∷ 0x4D ∷ 0x00 ∷ 0x96 ∷ 0x08 ∷ 0x00 ∷ 0x00 ∷ 0x01 ∷ 0x41 ∷ 0x01 ∷ 0x42 ∷ 0x01 ∷ 0x43 ∷ 0x00 ∷ [] ++ flat_map (λ r. r) records ++ 0x8A ∷ 0x02 ∷ 0x00 ∷ 0x00 ∷ 0x74 ∷ [])

-- A segment with this attribute byte, length, name and class; an absolute one of 4 bytes at frame number B800H.
abbrev pub segment : ℕ → ℕ → ℕ → ℕ → List ℕ
segment attribute length name class = 0x98 ∷ 0x07 ∷ 0x00 ∷ attribute ∷ length ∷ 0x00 ∷ name ∷ class ∷ 0x01 ∷ 0x00 ∷ []

abbrev pub absolute : ℕ → ℕ → List ℕ
absolute name class = 0x98 ∷ 0x0A ∷ 0x00 ∷ 0x08 ∷ 0x00 ∷ 0xB8 ∷ 0x00 ∷ 0x04 ∷ 0x00 ∷ name ∷ class ∷ 0x01 ∷ 0x00 ∷ []

-- A comment that raises a segment to 4,096 bytes.
abbrev pub raise : ℕ → List ℕ
raise segment = 0x88 ∷ 0x04 ∷ 0x00 ∷ 0x00 ∷ 0xDC ∷ segment ∷ 0x00 ∷ []

-- A place in the frame with this number, whose base is 16 times the number.
abbrev pub place : ℕ → ℕ → Placed
place address number = record { address = address; frame = record { base = 16 * number; selector = number } }

-- The places of the segments of modules laid from a base, in the order in which they are laid, and the first free address.
abbrev pub places : ℕ → Frames → List (List Rec) → Option (List ((ℕ × ℕ) × Placed) × ℕ)
places base frames ms = option_map (λ l. (map (λ x. (place_of x.0, x.1)) l.what, l.free)) (arranged (record { base = base; frames = frames }) ms)

-- A group with one segment, and one with none.
abbrev pub group : ℕ → ℕ → List ℕ
group name segment = 0x9A ∷ 0x04 ∷ 0x00 ∷ name ∷ 0xFF ∷ segment ∷ 0x00 ∷ []

abbrev pub empty_group : ℕ → List ℕ
empty_group name = 0x9A ∷ 0x02 ∷ 0x00 ∷ name ∷ 0x00 ∷ []

-- For each module laid from a base, the places of its segments and the frames of its groups; and the first free address.
abbrev pub module_places : ℕ → Frames → List (List Rec) → Option (List (List Placed × List Frame) × ℕ)
module_places base frames ms = option_map (λ l. (map (λ pl. (pl.segments, pl.groups)) l.what, l.free)) (arranged_places (record { base = base; frames = frames }) ms)

-- The frame with this number, whose base is 16 times the number.
abbrev pub paragraph_frame : ℕ → Frame
paragraph_frame number = record { base = 16 * number; selector = number }
