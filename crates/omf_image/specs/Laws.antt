-- Laws of the definitions, each the contract of a function of the same name.
use Rattle.std.specs.Prelude.{◌≡◌, ◌↔◌, ◌<◌, ◌≤◌, IsTrue, Contains, ℕ, List, [], ◌∷◌, ◌++◌, length, map, slice_get, Option, None, IsSome, Ok, Err}
use Rattle.std.specs.List.{repeat}
use Rattle.std.specs.Option.{option_or}
use Rattle.omf_frame.specs.Bytes.{AreBytes}
use Rattle.omf_frame.specs.Fault.{Fault, is_before}
use Rattle.omf_frame.specs.declared.fault.Reason.TheVariants as reason
use Rattle.omf_records.specs.Layout.{fault, Meets}
use Rattle.omf_image.specs.Blocks.{Blocks, Repeat, Nest, blocks, block_bytes, blocks_bytes, blocks_size, AreBlocks, IsFirstFault}
-- computed: blocks_are_read, lengths_are_decided, blocks_are_expanded, block_faults_are_least and blocks_are_measured of omf_image.
use Rattle.omf_image.specs.Inner.Expanding.{read_blocks, expanded_length, block_faults, blocks_of, expanded, length_faults}
-- computed: runs_are_maximal of omf_image.
use Rattle.omf_image.specs.Inner.Joined.{runs_of}
use Rattle.omf_image.specs.Overlay.{Laid, byte_of, byte_at, AreRuns, IsRunAt, AreLaidOver}
use Rattle.omf_image.specs.Painting.{extent}
use Rattle.omf_image.specs.declared.run.Run.{Run}
use Rattle.omf_image.specs.declared.limits.Limits.{Limits}

-- The bytes of a block are those of its contents, taken as often as its repeat count says.
abbrev pub BlocksAreRepeated : Type 0
BlocksAreRepeated = ((count : ℕ) (bytes : List ℕ) → block_bytes (Repeat count bytes) ≡ repeat count bytes)
    × ((count : ℕ) (trees : Blocks) → block_bytes (Nest count trees) ≡ repeat count (blocks_bytes trees))

-- The size of blocks is the number of bytes they expand to.
abbrev pub SizesAreLengths : Type 0
SizesAreLengths = (trees : Blocks) → length (blocks_bytes trees) ≡ blocks_size trees

-- Reading blocks gives the only list of trees that the bytes spell, or their first fault.
abbrev pub BlocksAreRead : Type 0
BlocksAreRead = (width levels : ℕ) (bytes : List ℕ) → AreBytes bytes → Meets (blocks width levels) 0 bytes (read_blocks width levels bytes)

-- The computed length is the size of the blocks within the limits, or their first fault.
abbrev pub LengthsAreDecided : Type 0
LengthsAreDecided = (width : ℕ) (limits : Limits) (bytes : List ℕ) → AreBytes bytes
    → ((n : ℕ) → (expanded_length width limits bytes ≡ Ok n) ↔ ((trees : Blocks) × AreBlocks width limits bytes trees × (blocks_size trees ≡ n)))
    × ((e : Fault) → (expanded_length width limits bytes ≡ Err e) ↔ IsFirstFault width limits bytes e)

-- The blocks that bytes spell are those computed, and no fault is computed; the bytes computed are those of the blocks.
abbrev pub BlocksAreExpanded : Type 0
BlocksAreExpanded = (width : ℕ) (limits : Limits) (bytes : List ℕ) (trees : Blocks) → (blocks width limits.nesting).Spells 0 bytes trees
    → (blocks_of width limits bytes ≡ trees) × (expanded width limits bytes ≡ blocks_bytes trees) × (block_faults width limits bytes ≡ [])

-- A fault of a layout that no other of its faults precedes.
abbrev pub IsLeastOf : (Fault → Type 0) → Fault → Type 0
IsLeastOf Faults f = Faults f × ((g : Fault) → Faults g → IsTrue (is_before f g))

-- No fault of the blocks is computed exactly if the bytes spell blocks; a fault that is computed is the first of the blocks' faults.
abbrev pub BlockFaultsAreLeast : Type 0
BlockFaultsAreLeast = (width : ℕ) (limits : Limits) (bytes : List ℕ) → AreBytes bytes
    → ((block_faults width limits bytes ≡ []) ↔ ((trees : Blocks) × (blocks width limits.nesting).Spells 0 bytes trees))
    × ((f : Fault) → Contains (block_faults width limits bytes) f → IsLeastOf ((blocks width limits.nesting).Faults 0 bytes) f)

-- For bytes that spell blocks: no fault of the length is computed if the blocks expand to no more bytes than the limit, else DataTooLong at 0.
abbrev pub BlocksAreMeasured : Type 0
BlocksAreMeasured = (width : ℕ) (limits : Limits) (bytes : List ℕ) (trees : Blocks) → (blocks width limits.nesting).Spells 0 bytes trees
    → (blocks_size trees ≤ limits.expanded → length_faults width limits bytes ≡ [])
    × (limits.expanded < blocks_size trees → length_faults width limits bytes ≡ fault 0 reason.DataTooLong ∷ [])

-- Blocks within some limits are within all larger limits.
abbrev pub LimitsMayGrow : Type 0
LimitsMayGrow = (width : ℕ) (small large : Limits) (bytes : List ℕ) (trees : Blocks) → small.nesting ≤ large.nesting → small.expanded ≤ large.expanded
    → AreBlocks width small bytes trees → AreBlocks width large bytes trees

-- Joining each piece with the runs it touches gives all the maximal covered intervals; only one list of them exists.
abbrev pub RunsAreMaximal : Type 0
RunsAreMaximal = ((laid : List Laid) (segment : ℕ) → AreRuns (byte_at laid segment) (runs_of laid segment))
    × ((byte : ℕ → Option ℕ) (runs others : List Run) → AreRuns byte runs → AreRuns byte others → runs ≡ others)

-- One more piece sets the bytes that it covers, and leaves all others unchanged.
abbrev pub LastPieceWins : Type 0
LastPieceWins = (laid : List Laid) (l : Laid) (segment x : ℕ) → byte_at (laid ++ l ∷ []) segment x ≡ option_or (byte_of segment x l) (byte_at laid segment x)

-- In an image made by laying pieces in turn over an empty one, the byte at a place is that of the last piece that covers it, and the k-th maximal covered interval is the k-th of the pieces together.
abbrev pub ImagesAreOverlays : Type 0
ImagesAreOverlays = (pieces image : List Laid) → AreLaidOver [] pieces image
    → ((segment x : ℕ) → byte_at image segment x ≡ byte_at pieces segment x)
    × ((segment k : ℕ) (run : Option Run) → IsRunAt (byte_at image segment) k run ↔ (run ≡ slice_get (runs_of pieces segment) k))

-- An empty piece covers nothing.
abbrev pub NoBytesCoverNothing : Type 0
NoBytesCoverNothing = (l : Laid) (segment x : ℕ) → l.bytes ≡ [] → byte_of segment x l ≡ None

-- Pieces laid before others change neither bytes nor runs if the others cover all their places.
abbrev pub CoveredPiecesAreLost : Type 0
CoveredPiecesAreLost = (ahead laid : List Laid) → ((segment x : ℕ) → IsSome (byte_at ahead segment x) → IsSome (byte_at laid segment x))
    → ((segment x : ℕ) → byte_at (ahead ++ laid) segment x ≡ byte_at laid segment x)
    × ((segment : ℕ) → runs_of (ahead ++ laid) segment ≡ runs_of laid segment)

-- If pieces are laid before others over the same intervals, the image is that of the others alone.
abbrev pub SamePlacesAreLost : Type 0
SamePlacesAreLost = (ahead laid image : List Laid) → map extent ahead ≡ map extent laid → AreLaidOver [] (ahead ++ laid) image → AreLaidOver [] laid image
