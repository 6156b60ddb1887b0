-- Repeated blocks of LIDATA (TIS OMF 1.1, "LIDATA", data blocks).
use Rattle.std.specs.Prelude.{◌≡◌, ◌⊎◌, ◌<◌, ◌≤◌, IsTrue, ℕ, zero, suc, ◌+◌, ◌*◌, List, [], ◌∷◌, ◌++◌, length, map, ◌==◌}
use Rattle.std.specs.List.{repeat}
use Rattle.omf_frame.specs.Fault.{Fault, is_before}
use Rattle.omf_frame.specs.declared.fault.Reason.TheVariants as reason
use Rattle.omf_records.specs.Layout.{Layout, fault, ◌>>=◌, le, name, checked, choose, called, times, many}
use Rattle.omf_image.specs.declared.limits.Limits.{Limits}

-- A block is a repeat count and data, or a repeat count and one or more blocks.
mutual
  pub data Block : Type 0 where
    Repeat : ℕ → List ℕ → Block
    Nest : ℕ → Blocks → Block

  pub data Blocks : Type 0 where
    NoBlocks : Blocks
    First : Block → Blocks → Blocks

abbrev pub gathered : List Block → Blocks
gathered [] = NoBlocks
gathered (b ∷ bs) = First b (gathered bs)

-- A repeat count of `width` bytes (four in a record of odd type, A3H; two in one of even type, A2H) and a block count of two; then a length byte
-- and that many bytes if the block count is 0, else that many blocks. Blocks nest at most `levels` deep; with no level left, the repeat count is
-- refused.
abbrev pub block : ℕ → ℕ → Layout Block
block width zero = called (checked (le width) (λ count. reason.TooDeep ∷ [])) (λ count. Repeat count [])
block width (suc levels) = le width >>= λ count. le 2 >>= λ n.
    choose (n == 0) (called name (λ bytes. Repeat count bytes)) (called (times n (block width levels)) (λ bs. Nest count (gathered bs)))

-- Blocks up to the end of the bytes. An outermost block has depth 1.
abbrev pub blocks : ℕ → ℕ → Layout Blocks
blocks width levels = called (many (block width levels)) (λ bs. gathered (map (λ b. b.item) bs))

-- Bytes repeated n times. Repeating no bytes gives none.
abbrev pub repeated : ℕ → List ℕ → List ℕ
repeated n [] = []
repeated n (b ∷ bytes) = repeat n (b ∷ bytes)

-- The bytes of a block: the bytes of its contents, repeated by its repeat count.
abbrev mutual
  pub block_bytes : Block → List ℕ
  block_bytes (Repeat count bytes) = repeated count bytes
  block_bytes (Nest zero _) = []
  block_bytes (Nest (suc n) trees) = repeated (suc n) (blocks_bytes trees)

  pub blocks_bytes : Blocks → List ℕ
  blocks_bytes NoBlocks = []
  blocks_bytes (First b trees) = block_bytes b ++ blocks_bytes trees

-- The number of these bytes.
abbrev mutual
  pub block_size : Block → ℕ
  block_size (Repeat count bytes) = count * length bytes
  block_size (Nest count trees) = count * blocks_size trees

  pub blocks_size : Blocks → ℕ
  blocks_size NoBlocks = 0
  blocks_size (First b trees) = block_size b + blocks_size trees

-- The bytes spell these blocks, which are within the limits. Places count from the first block's byte.
abbrev pub AreBlocks : ℕ → Limits → List ℕ → Blocks → Type 0
AreBlocks width limits bytes trees = (blocks width limits.nesting).Spells 0 bytes trees × (blocks_size trees ≤ limits.expanded)

-- The first fault of bytes that are no blocks within the limits: the first Short or TooDeep from the left, Short at a tie; if there is
-- neither, DataTooLong at 0, as the blocks expand to too many bytes.
abbrev pub IsFirstFault : ℕ → Limits → List ℕ → Fault → Type 0
IsFirstFault width limits bytes e =
    ((blocks width limits.nesting).Faults 0 bytes e × ((f : Fault) → (blocks width limits.nesting).Faults 0 bytes f → IsTrue (is_before e f)))
    ⊎ ((trees : Blocks) × (blocks width limits.nesting).Spells 0 bytes trees × (limits.expanded < blocks_size trees) × (e ≡ fault 0 reason.DataTooLong))
