-- Definitions of the worked examples.
use Rattle.std.specs.Prelude.{ℕ, List, map, Option, None, Some, slice_index_or, true, false}
use Rattle.std.specs.List.{range_with_len}
use Rattle.omf_image.specs.Limits.{profile_limits}
use Rattle.omf_reloc.specs.Modules.{module_of}
use Rattle.omf_finding.specs.Pattern.{pattern}
use Rattle.omf_finding.specs.declared.closed.ClosedByte.{ClosedByte}
use Rattle.omf_finding.specs.declared.patterning.PatternByte.{PatternByte}

abbrev pub closed : ℕ → Option PatternByte
closed b = Some (record { value = b; is_open = false })

abbrev pub opened : ℕ → Option PatternByte
opened b = Some (record { value = b; is_open = true })

-- The first n bytes of the pattern of segment 1.
abbrev pub pattern_row : List ℕ → ℕ → List (Option PatternByte)
pattern_row input n = map (λ x. pattern profile_limits (module_of input) 1 x) (range_with_len 0 n)

-- A segment with these bytes from offset 0 on.
abbrev pub byte_of : List (Option PatternByte) → ℕ → Option PatternByte
byte_of bytes x = slice_index_or bytes x None

abbrev pub closed_byte_at : ℕ → ℕ → ClosedByte
closed_byte_at offset value = record { offset = offset; value = value }
