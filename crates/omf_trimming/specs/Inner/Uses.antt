-- The references of a module, as the code gathers them.
use Rattle.std.specs.Prelude.{ℕ, ◌+◌, List, [], ◌∷◌, ◌++◌, length, replicate, slice_get, slice_set, Option, Some, None}
use Rattle.omf_records.specs.Values.{Contents, Iterated, Plain, Rec}
use Rattle.omf_check.specs.Tables.{segments}
use Rattle.omf_check.specs.declared.method.TargetMethod.{TargetMethod}
use Rattle.omf_reloc.specs.Plain.{Kept, Piece}
use Rattle.omf_trimming.specs.Reaching.{piece_uses, uses}

-- The segment of the last data after a record.
abbrev pub segment_after : ℕ → Contents → ℕ
segment_after last (Plain d) = d.segment.item
segment_after last (Iterated d) = d.segment.item
segment_after last _ = last

-- The references of pieces one after another.
abbrev pub piece_after : ℕ → Piece → ℕ
piece_after last (Kept r) = segment_after last r.contents
piece_after last _ = last

abbrev pub uses_from : ℕ → List Piece → List (ℕ × TargetMethod)
uses_from last [] = []
uses_from last (p ∷ ps) = piece_uses last p ++ uses_from (piece_after last p) ps

-- Lists of targets, one for each index; a target is added to the list of its segment.
abbrev pub Buckets : Type 0
Buckets = List (List TargetMethod)

abbrev pub bucket_with : ℕ → TargetMethod → Buckets → Option (List TargetMethod) → Buckets
bucket_with s t bs None = bs
bucket_with s t bs (Some b) = slice_set bs s (b ++ t ∷ [])

abbrev pub with_use : ℕ → TargetMethod → Buckets → Buckets
with_use s t bs = bucket_with s t bs (slice_get bs s)

abbrev pub filled : Buckets → List (ℕ × TargetMethod) → Buckets
filled bs [] = bs
filled bs (u ∷ us) = filled (with_use u.0 u.1 bs) us

abbrev pub empty_buckets : ℕ → Buckets
empty_buckets n = replicate n []

abbrev pub bucketed : ℕ → List (ℕ × TargetMethod) → Buckets
bucketed n us = filled (empty_buckets n) us

-- The references of each segment of a module, and the pairs of weak externals.
abbrev pub module_uses : List Rec → Buckets
module_uses m = bucketed (length (segments m) + 1) (uses m)
