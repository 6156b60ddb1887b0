-- Canonical bytes (this profile's rule): shortest encodings, computed checksums, and fixups without threads in records of at most 1,024
-- bytes.
use Rattle.omf_canon.specs.Unthreaded.{unthreaded}
use Rattle.std.specs.Prelude.{ℕ, List, [], ◌∷◌, map, flat_map, false, option_map}
use Rattle.omf_frame.specs.Framing.{Raw, raw_bytes, raw_of}
use Rattle.omf_records.specs.Values.{Rec}
use Rattle.omf_records.specs.Shortest.{contents_bytes, option_bytes, reference_bytes}
use Rattle.omf_reloc.specs.Plain.{Piece, Kept, Fixed, End}
use Rattle.omf_canon.specs.PlainBytes.{fixup_bytes}
use Rattle.omf_canon.specs.Cut.{cut}
use Rattle.omf_canon.specs.Skeleton.{skeleton}

-- The records of a piece, each with the checksum byte that makes its sum 0. A start always has its displacement, even if it is 0 (this profile's rule).
abbrev pub piece_raws : Piece → List Raw
piece_raws (Kept r) = raw_of r.kind (contents_bytes r.kind r.contents) ∷ []
piece_raws (Fixed kind fixups) = map (λ g. raw_of kind (flat_map (fixup_bytes kind) g)) (cut kind fixups)
piece_raws (End kind byte start) = raw_of kind (byte ∷ option_bytes (reference_bytes kind) (option_map (unthreaded false) start)) ∷ []

abbrev pub canonical_raws : List Piece → List Raw
canonical_raws ps = flat_map piece_raws ps

-- The canonical bytes of a module are those of its skeleton.
abbrev pub canonical : List Rec → List ℕ
canonical m = flat_map raw_bytes (canonical_raws (skeleton m))
