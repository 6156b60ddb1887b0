-- Definitions for the worked examples.
use Rattle.std.specs.Prelude.{ℕ, ◌+◌, List, [], ◌∷◌, ◌++◌, length, map, flat_map, Option, option_map}
use Rattle.omf_records.specs.Values.{alignment}
use Rattle.omf_records.specs.Values.{Rec}
use Rattle.omf_check.specs.Inner.Verdict.{Verdict, Accepted}
use Rattle.omf_check.specs.Rows.{verdict_of}
use Rattle.omf_check.specs.WellFormed.{recs}
use Rattle.omf_layout.specs.declared.options.Frames.{Frames}
use Rattle.omf_layout.specs.Draft.{draft_text}
use Rattle.omf_layout.specs.Layout.{layout_of}
use Rattle.omf_layout.specs.Wants.{alignment_named, bytes_aligned, raised}

-- The alignments in attribute bytes.
abbrev pub aligned : List ℕ → List ℕ
aligned bytes = map (λ a. bytes_aligned (alignment_named (alignment a))) bytes

-- Lines, each with its line feed.
abbrev pub lines : List (List ℕ) → List ℕ
lines ls = flat_map (λ l. l ++ 10 ∷ []) ls

-- The records of a module; none of an input that is refused.
abbrev pub accepted : Verdict → List Rec
accepted (Accepted rs) = recs rs
accepted _ = []

abbrev pub module_of : List ℕ → List Rec
module_of input = accepted (verdict_of input)

-- The draft of a module's layout; none if it has none.
abbrev pub drafted : ℕ → Frames → List ℕ → Option (List ℕ)
drafted base frames bytes = option_map (draft_text frames (module_of bytes)) (layout_of (record { base = base; frames = frames }) (module_of bytes))

-- The segments that the comments of a module raise.
abbrev pub raised_in : List ℕ → List ℕ
raised_in bytes = raised (module_of bytes)

-- A module's first and last records: a header, an empty name and a name T; the end.
abbrev pub between : List ℕ → List ℕ
between records = 0x80 ∷ 0x03 ∷ 0x00 ∷ 0x01 ∷ 0x41 ∷ 0x3B ∷ 0x96 ∷ 0x04 ∷ 0x00 ∷ 0x00 ∷ 0x01 ∷ 0x54 ∷ 0x11 ∷ [] ++ records ++ 0x8A ∷ 0x02 ∷ 0x00 ∷ 0x00 ∷ 0x74 ∷ []

-- A segment with this attribute byte and length; an absolute one of 4 bytes at offset 10H of frame number B800H.
abbrev pub segment : ℕ → ℕ → List ℕ
segment attribute length = 0x98 ∷ 0x07 ∷ 0x00 ∷ attribute ∷ length ∷ 0x00 ∷ 0x02 ∷ 0x01 ∷ 0x01 ∷ 0x00 ∷ []

abbrev pub absolute : List ℕ
absolute = 0x98 ∷ 0x0A ∷ 0x00 ∷ 0x08 ∷ 0x00 ∷ 0xB8 ∷ 0x10 ∷ 0x04 ∷ 0x00 ∷ 0x02 ∷ 0x01 ∷ 0x01 ∷ 0x00 ∷ []

-- A comment of class DCH with this text.
abbrev pub raise : List ℕ → List ℕ
raise text = 0x88 ∷ (3 + length text) ∷ 0x00 ∷ 0x00 ∷ 0xDC ∷ [] ++ text ++ 0x00 ∷ []

-- A group of segment 1, and one without members.
abbrev pub group : List ℕ
group = 0x9A ∷ 0x04 ∷ 0x00 ∷ 0x02 ∷ 0xFF ∷ 0x01 ∷ 0x60 ∷ []

abbrev pub empty_group : List ℕ
empty_group = 0x9A ∷ 0x02 ∷ 0x00 ∷ 0x02 ∷ 0x00 ∷ []

-- An external X, and a near communal Y of 7 bytes.
abbrev pub external : List ℕ
external = 0x8C ∷ 0x04 ∷ 0x00 ∷ 0x01 ∷ 0x58 ∷ 0x00 ∷ 0x17 ∷ []

abbrev pub communal : List ℕ
communal = 0xB0 ∷ 0x06 ∷ 0x00 ∷ 0x01 ∷ 0x59 ∷ 0x00 ∷ 0x62 ∷ 0x07 ∷ 0x00 ∷ []
