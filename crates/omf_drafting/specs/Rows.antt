-- Definitions for the worked examples.
use Rattle.std.specs.Prelude.{ℕ, List, [], ◌∷◌, Option}
use Rattle.omf_records.specs.Values.{Rec}
use Rattle.omf_layout.specs.declared.options.Frames.{Frames}
use Rattle.omf_drafting.specs.Text.{drafted}

-- The draft of modules from a base on.
abbrev pub drafted_from : ℕ → Frames → List (List Rec) → Option (List ℕ)
drafted_from base frames ms = drafted (record { base = base; frames = frames }) ms

-- Externals X and Y; a public X and a local one Y at offset 0 of segment 1.
abbrev pub external_x_and_y : List ℕ
external_x_and_y = 0x8C ∷ 0x07 ∷ 0x00 ∷ 0x01 ∷ 0x58 ∷ 0x00 ∷ 0x01 ∷ 0x59 ∷ 0x00 ∷ 0x00 ∷ []

abbrev pub public_x : List ℕ
public_x = 0x90 ∷ 0x08 ∷ 0x00 ∷ 0x00 ∷ 0x01 ∷ 0x01 ∷ 0x58 ∷ 0x00 ∷ 0x00 ∷ 0x00 ∷ 0x00 ∷ []

abbrev pub local_public_y : List ℕ
local_public_y = 0xB6 ∷ 0x08 ∷ 0x00 ∷ 0x00 ∷ 0x01 ∷ 0x01 ∷ 0x59 ∷ 0x00 ∷ 0x00 ∷ 0x00 ∷ 0x00 ∷ []
