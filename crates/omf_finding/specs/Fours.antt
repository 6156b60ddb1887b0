-- Four bytes in a row: by these a segment is searched for.
use Rattle.std.specs.Prelude.{◌≡◌, ◌+◌, ◌<◌, ℕ, List, [], ◌∷◌, Option, Some, None, slice_get}
use Rattle.std.specs.Int.{from_le_bytes, w32}
use Rattle.omf_finding.specs.Run.{closed_byte}
use Rattle.omf_finding.specs.declared.patterning.PatternByte.{PatternByte}

-- The little-endian number of four bytes, if there are all of them.
abbrev pub four : Option ℕ → Option ℕ → Option ℕ → Option ℕ → Option ℕ
four (Some a) (Some b) (Some c) (Some d) = Some (from_le_bytes w32 (a ∷ b ∷ c ∷ d ∷ []))
four _ _ _ _ = None

-- Four closed bytes in a row of a segment, from offset x on.
abbrev pub four_closed : (ℕ → Option PatternByte) → ℕ → Option ℕ
four_closed byte x = four (closed_byte (byte x)) (closed_byte (byte (x + 1))) (closed_byte (byte (x + 2))) (closed_byte (byte (x + 3)))

-- The four bytes at an offset of a program.
abbrev pub four_at : List ℕ → ℕ → Option ℕ
four_at program at = four (slice_get program at) (slice_get program (at + 1)) (slice_get program (at + 2)) (slice_get program (at + 3))

-- A program has these four bytes at n places: at n offsets of it, in ascending order.
pub record AreAt (program : List ℕ) (key n : ℕ) : Type 0 where
  pub at : ℕ → ℕ
  pub rising : (i j : ℕ) → i < j → j < n → at i < at j
  pub each : (i : ℕ) → i < n → four_at program (at i) ≡ Some key
