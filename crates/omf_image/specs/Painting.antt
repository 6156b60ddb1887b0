-- Zeros laid before the data.
use Rattle.std.specs.Prelude.{◌≡◌, ◌⊎◌, ◌+◌, ◌<◌, ◌≤◌, ◌^◌, List, map, length, replicate}
use Rattle.omf_image.specs.Overlay.{Laid}
use Rattle.omf_image.specs.declared.painting.Extent.{Extent}

-- The interval of a piece.
abbrev pub extent : Laid → Extent
extent l = record { segment = l.segment; first = l.offset; len = length l.bytes }

-- A piece of zeros over an interval; and such pieces over several intervals.
abbrev pub zeros : Extent → Laid
zeros e = record { segment = e.segment; offset = e.first; bytes = replicate e.len 0 }

abbrev pub all_zeros : List Extent → List Laid
all_zeros es = map zeros es

-- The interval is within the 2^32 bytes of a segment.
abbrev pub Fits : Extent → Type 0
Fits e = e.first + e.len ≤ 2 ^ 32

-- Two intervals do not touch: they are in different segments, or at least one place is between them.
abbrev pub AreApart : Extent → Extent → Type 0
AreApart e f = e.segment ≡ f.segment → (e.first + e.len < f.first) ⊎ (f.first + f.len < e.first)
