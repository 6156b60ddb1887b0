-- What a fixup shows of its target: the value that a program has at its location, in a frame.
use Rattle.std.specs.Prelude.{◌↔◌, ◌<◌, ℕ, ◌+◌, ◌^◌, List, filter_map, Contains}
use Rattle.omf_frame.specs.Bytes.{difference}
use Rattle.omf_reloc.specs.Offsets.{readings, offsets}

-- The addresses that an offset o in a frame with this base can mean, where the fixup has an n-bit displacement u: one for each reading of
-- it.
abbrev pub said : ℕ → ℕ → ℕ → ℕ → List ℕ
said n u base o = filter_map (λ less. difference (o + base + less) u) (readings n u)

-- Exactly from those addresses a fixup has this offset.
abbrev pub OffsetsSayAddresses : Type 0
OffsetsSayAddresses = (w n u base o address : ℕ) → o < 2 ^ w → (Contains (offsets w n address u base) o ↔ Contains (said n u base o) address)
