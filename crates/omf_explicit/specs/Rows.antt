-- Records of the worked examples.
use Rattle.std.specs.Prelude.{ℕ, List, flat_map, map}
use Rattle.omf_frame.specs.Framing.{front_record, raw_bytes}
use Rattle.omf_frame.specs.Rows.{hex}
use Rattle.omf_explicit.specs.Explicit.{with_segments}
use Rattle.omf_explicit.specs.Origins.{segments_origin}

-- The bytes of these records, and those with segments in place of frame numbers.
abbrev pub bytes_of : List (List ℕ) → List ℕ
bytes_of texts = flat_map (λ t. hex t) texts

abbrev pub plain : List (List ℕ) → List ℕ
plain texts = flat_map raw_bytes (with_segments (map (λ t. front_record (hex t)) texts))

-- The number of the record of these from which the record with a number comes, with segments in place of frame numbers.
abbrev pub origin : List (List ℕ) → ℕ → ℕ
origin texts n = segments_origin (map (λ t. front_record (hex t)) texts) n
