-- What is counted of a segment: its closed bytes, those that vary, and where its data begin and end. Only private functions use these definitions.
use Rattle.std.specs.Prelude.{◌≡◌, ◌<◌, ◌+◌, ◌-◌, ◌==◌, ℕ, zero, suc, List, filter, filter_map, if◌then◌else◌, length, slice_get, Bool, true, false, not, Option, Some, None, IsSome}
use Rattle.std.specs.List.{range_with_len}
use Rattle.omf_finding.specs.Near.{AreClosed}
use Rattle.omf_finding.specs.Sure.{varied}
use Rattle.omf_finding.specs.declared.closed.ClosedByte.{ClosedByte}
use Rattle.omf_finding.specs.declared.patterning.Interval.{Interval}
use Rattle.omf_finding.specs.declared.patterning.PatternByte.{PatternByte}
use Rattle.omf_finding.specs.declared.shapes.Shape.{Shape}

abbrev pub closed_with : ℕ → Option ℕ → Option ℕ → Option ClosedByte
closed_with offset (Some value) (Some mark) = if mark == 1 then None else Some (record { offset = offset; value = value })
closed_with offset _ _ = None

-- The closed byte at an index of an interval.
abbrev pub closed_at : Interval → ℕ → Option ClosedByte
closed_at i at = closed_with (i.first + at) (slice_get i.values.now at) (slice_get i.marks.now at)

-- The closed bytes of an interval.
abbrev pub closed_in : Interval → List ClosedByte
closed_in i = filter_map (closed_at i) (range_with_len 0 (length i.values.now))

-- The closed byte at the index before this one.
abbrev pub before_at : Interval → ℕ → Option ClosedByte
before_at i zero = None
before_at i (suc at) = closed_at i at

abbrev pub fresh_after : Option ClosedByte → Option ClosedByte → Bool
fresh_after before None = false
fresh_after None (Some c) = true
fresh_after (Some b) (Some c) = not (b.value == c.value)

-- The byte at an index of an interval is closed, and not the same as a closed one before it.
abbrev pub fresh_at : Interval → ℕ → Bool
fresh_at i at = fresh_after (before_at i at) (closed_at i at)

abbrev pub fresh_below : Interval → ℕ → List ℕ
fresh_below i n = filter (fresh_at i) (range_with_len 0 n)

-- The indices at which there are such bytes.
abbrev pub fresh_in : Interval → List ℕ
fresh_in i = fresh_below i (length i.values.now)

-- The data of a segment begin at the first offset and end before the other one, which is 0 if there are none.
pub record IsExtent (byte : ℕ → Option PatternByte) (first end : ℕ) : Type 0 where
  pub some : 0 < end → (first < end) × IsSome (byte first) × IsSome (byte (end - 1))
  pub none : (x : ℕ) → IsSome (byte x) → 0 < end

-- What is counted of a segment with this pattern.
pub record IsMeasured (byte : ℕ → Option PatternByte) (s : Shape) : Type 0 where
  pub bytes : List ClosedByte
  pub are : AreClosed byte bytes
  pub count : s.closed ≡ length bytes
  pub vary : length s.places.items ≡ 1 → s.varied ≡ varied byte bytes
  pub extent : IsExtent byte s.first s.end
