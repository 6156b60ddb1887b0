-- Definitions for the worked examples.
use Rattle.std.specs.Prelude.{ℕ, ◌-◌, List, None, nat_le, slice_get, if◌then◌else◌, true, false}
use Rattle.omf_linking.specs.declared.space.stretch.Owner.{Owner}
use Rattle.omf_linking.specs.Space.Memory.{Piece, Share}
use Rattle.omf_linking.specs.Space.Segments.{SegmentAt}

-- Segment 1 of a module.
abbrev pub owner : ℕ → Owner
owner m = record { «module» = m; segment = 1 }

-- Bytes of such a segment at an address: of one that is not common, and of a common one.
abbrev pub own : ℕ → ℕ → List ℕ → Piece
own m a bs = record { owner = owner m; common = false; address = a; bytes = bs }

abbrev pub common : ℕ → ℕ → List ℕ → Piece
common m a bs = record { owner = owner m; common = true; address = a; bytes = bs }

-- A segment of a module at an address, with these bytes from an offset on; and its bytes at an address of memory.
abbrev pub segment : ℕ → ℕ → ℕ → List ℕ → SegmentAt
segment m a first bs = record { owner = owner m; common = false; address = a; byte = λ x. if nat_le first x then slice_get bs (x - first) else None }

abbrev pub own_share : ℕ → ℕ → Share
own_share m b = record { owner = owner m; common = false; byte = b }
