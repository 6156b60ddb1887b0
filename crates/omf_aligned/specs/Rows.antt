-- Records of the worked examples.
use Rattle.std.specs.Prelude.{ℕ, List, Option, flat_map, map}
use Rattle.omf_frame.specs.Framing.{front_record, raw_bytes}
use Rattle.omf_frame.specs.Rows.{hex}
use Rattle.omf_aligned.specs.Aligned.{with_pages}
use Rattle.omf_aligned.specs.Origins.{pages_origin}

-- The bytes of these records with A = 4 in place of A = 6 and 7.
abbrev pub paged : List (List ℕ) → List ℕ
paged texts = flat_map raw_bytes (with_pages (map (λ t. front_record (hex t)) texts))

-- The number of the record of these from which the record with a number comes.
abbrev pub origin : List (List ℕ) → ℕ → Option ℕ
origin texts n = pages_origin (map (λ t. front_record (hex t)) texts) n
