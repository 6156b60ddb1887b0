-- Blocks, computed: their trees or first fault, and the bytes of the trees.
use Rattle.std.specs.Prelude.{ℕ, List, [], ◌∷◌, nat_le, Result, Ok, Err, Option, Some, None}
use Rattle.omf_frame.specs.Fault.{Fault, rule, broken, first_step, least}
use Rattle.omf_frame.specs.declared.fault.Reason.TheVariants as reason
use Rattle.omf_image.specs.declared.limits.Limits.{Limits}
use Rattle.omf_image.specs.Blocks.{Blocks, NoBlocks, blocks_bytes, blocks_size}
use Rattle.omf_image.specs.Inner.BlockReaders.{blocks_whole}

-- The blocks that bytes spell up to their end, nested at most `levels` deep; or the first Short or TooDeep from the left, Short at a
-- tie. Places count from the first block's byte.
abbrev pub read_blocks : ℕ → ℕ → List ℕ → Result Blocks Fault
read_blocks width levels bytes = (blocks_whole width levels).read 0 bytes

-- The blocks; none if there is a fault.
abbrev pub blocks_or_none : Result Blocks Fault → Blocks
blocks_or_none (Ok trees) = trees
blocks_or_none (Err e) = NoBlocks

abbrev pub blocks_of : ℕ → Limits → List ℕ → Blocks
blocks_of width limits bytes = blocks_or_none (read_blocks width limits.nesting bytes)

-- The bytes that they expand to.
abbrev pub expanded : ℕ → Limits → List ℕ → List ℕ
expanded width limits bytes = blocks_bytes (blocks_of width limits bytes)

-- The first Short or TooDeep, if any; and the fault of blocks that expand to too many bytes.
abbrev pub faults_of : Result Blocks Fault → List Fault
faults_of (Ok _) = []
faults_of (Err e) = e ∷ []

abbrev pub block_faults : ℕ → Limits → List ℕ → List Fault
block_faults width limits bytes = faults_of (read_blocks width limits.nesting bytes)

abbrev pub length_faults : ℕ → Limits → List ℕ → List Fault
length_faults width limits bytes = broken (rule (nat_le (blocks_size (blocks_of width limits bytes)) limits.expanded) 0 reason.DataTooLong ∷ [])

-- The number of bytes that the blocks expand to, or their first fault.
abbrev pub length_or : ℕ → Option Fault → Result ℕ Fault
length_or n None = Ok n
length_or n (Some e) = Err e

abbrev pub expanded_length : ℕ → Limits → List ℕ → Result ℕ Fault
expanded_length width limits bytes =
    length_or (blocks_size (blocks_of width limits bytes)) (least (first_step (block_faults width limits bytes ∷ length_faults width limits bytes ∷ [])))
