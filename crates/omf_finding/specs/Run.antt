-- The runs of a pattern, as they are searched for: an open byte is None.
use Rattle.std.specs.Prelude.{◌≡◌, ℕ, List, map, length, Option, Some, None, if◌then◌else◌}
use Rattle.std.specs.List.{range_with_len}
use Rattle.omf_image.specs.Overlay.{byte_at, IsRunAt}
use Rattle.omf_finding.specs.declared.patterning.PatternByte.{PatternByte}
-- computed: images_have_the_pattern of omf_finding.
use Rattle.omf_finding.specs.Inner.Walking.{Marks, byte_in}

abbrev pub closed_byte : Option PatternByte → Option ℕ
closed_byte None = None
closed_byte (Some p) = if p.is_open then None else Some p.value

-- The bytes of an interval.
abbrev pub cells : (ℕ → Option PatternByte) → ℕ → ℕ → List (Option ℕ)
cells byte first len = map (λ x. closed_byte (byte x)) (range_with_len first len)

-- The first offset and the bytes of the k-th maximal covered interval of a segment; none after the last.
abbrev pub IsPatternRun : Marks → ℕ → ℕ → Option (ℕ × List (Option ℕ)) → Type 0
IsPatternRun p segment k None = IsRunAt (byte_at p.values segment) k None
IsPatternRun p segment k (Some shown) =
    IsRunAt (byte_at p.values segment) k (Some (record { first = shown.0; len = length shown.1 })) × (shown.1 ≡ cells (byte_in p segment) shown.0 (length shown.1))
