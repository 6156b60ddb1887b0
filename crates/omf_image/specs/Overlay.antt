-- An image in which the last piece laid wins, and its covered intervals. That the last wins is the rule of this profile for overlapping data records.
use Rattle.std.specs.Prelude.{◌≡◌, ℕ, ◌+◌, ◌-◌, ◌^◌, ◌<◌, ◌≤◌, List, [], ◌∷◌, length, filter_map, ◌&&◌, ◌==◌, nat_le, Option, None, Some, IsSome, IsNone, slice_get, Contains, if◌then◌else◌}
use Rattle.std.specs.Option.{option_or}
use Rattle.omf_frame.specs.Bytes.{last}
use Rattle.omf_image.specs.declared.run.Run.{Run}

-- A piece: bytes at an offset of a segment.
pub record Laid : Type 0 where
  pub segment : ℕ
  pub offset : ℕ
  pub bytes : List ℕ

-- The byte of one piece at offset x of a segment, if it covers that place.
abbrev pub byte_of : ℕ → ℕ → Laid → Option ℕ
byte_of segment x l = if (l.segment == segment) && nat_le l.offset x then slice_get l.bytes (x - l.offset) else None

-- The byte at a place: that of the last piece that covers it.
abbrev pub byte_at : List Laid → ℕ → ℕ → Option ℕ
byte_at laid segment x = last (filter_map (byte_of segment x) laid)

-- A maximal covered interval of a segment: every place in it has a byte, and the places just before and after it have none.
pub record IsRun (byte : ℕ → Option ℕ) (run : Run) : Type 0 where
  pub nonempty : 0 < run.len
  pub covered : (x : ℕ) → run.first ≤ x → x < run.first + run.len → IsSome (byte x)
  pub after : IsNone (byte (run.first + run.len))
  pub before : (x : ℕ) → x + 1 ≡ run.first → IsNone (byte x)

-- The runs are in ascending order.
abbrev pub AreRising : List Run → Type 0
AreRising [] = Unit {0}
AreRising (r ∷ []) = Unit {0}
AreRising (r ∷ s ∷ runs) = (r.first < s.first) × AreRising (s ∷ runs)

-- The list of all the maximal covered intervals, in ascending order.
pub record AreRuns (byte : ℕ → Option ℕ) (runs : List Run) : Type 0 where
  pub each : (run : Run) → Contains runs run → IsRun byte run
  pub all : (run : Run) → IsRun byte run → Contains runs run
  pub rising : AreRising runs

-- The k-th maximal covered interval, from 0; none after the last.
abbrev pub IsRunAt : (ℕ → Option ℕ) → ℕ → Option Run → Type 0
IsRunAt byte k run = (runs : List Run) × AreRuns byte runs × (run ≡ slice_get runs k)

-- The bytes of an interval: as many as its length, each the byte at its place.
pub record AreBytesOver (byte : ℕ → Option ℕ) (run : Run) (bytes : List ℕ) : Type 0 where
  pub long : length bytes ≡ run.len
  pub each : (i : ℕ) → i < run.len → byte (run.first + i) ≡ slice_get bytes i

-- The bytes of an interval, if there is one; else none.
abbrev pub AreBytesOf : (ℕ → Option ℕ) → Option Run → Option (List ℕ) → Type 0
AreBytesOf byte None result = result ≡ None
AreBytesOf byte (Some run) result = (bytes : List ℕ) × (result ≡ Some bytes) × AreBytesOver byte run bytes

-- The bytes of the k-th maximal covered interval; none after the last.
abbrev pub AreBytesAt : (ℕ → Option ℕ) → ℕ → Option (List ℕ) → Type 0
AreBytesAt byte k result = (run : Option Run) × IsRunAt byte k run × AreBytesOf byte run result

-- The interval that bytes at an offset cover.
abbrev pub spanned : ℕ → List ℕ → Run
spanned first bytes = record { first = first; len = length bytes }

-- The first offset and the bytes of the k-th maximal covered interval; none after the last. The interval is within the segment's 2^32 bytes.
abbrev pub IsRunShown : (ℕ → Option ℕ) → ℕ → Option (ℕ × List ℕ) → Type 0
IsRunShown byte k None = IsRunAt byte k None
IsRunShown byte k (Some shown) = IsRunAt byte k (Some (spanned shown.0 shown.1)) × AreBytesOver byte (spanned shown.0 shown.1) shown.1 × (shown.0 + length shown.1 ≤ 2 ^ 32)

-- Every place of a piece has a byte already.
abbrev pub IsCovered : List Laid → Laid → Type 0
IsCovered laid l = (x : ℕ) → l.offset ≤ x → x < l.offset + length l.bytes → IsSome (byte_at laid l.segment x)

-- A piece was laid over what was there: it sets the bytes that it covers, and all others are unchanged.
abbrev pub IsLaidOver : List Laid → Laid → List Laid → Type 0
IsLaidOver old l new = (segment x : ℕ) → byte_at new segment x ≡ option_or (byte_of segment x l) (byte_at old segment x)

-- Pieces were laid in turn over what was there.
abbrev pub AreLaidOver : List Laid → List Laid → List Laid → Type 0
AreLaidOver old [] new = old ≡ new
AreLaidOver old (l ∷ laid) new = (next : List Laid) × IsLaidOver old l next × AreLaidOver next laid new
