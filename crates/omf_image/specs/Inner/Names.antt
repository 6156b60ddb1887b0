-- Names for parts of definitions, used in proofs and in contracts of private functions.

use Rattle.omf_frame.specs.declared.fault.Reason.{Reason}
use Rattle.omf_frame.specs.declared.fault.Reason.TheVariants as reason
use Rattle.std.specs.Prelude.{◌∷◌, ℕ, List, ◌+◌, ◌%◌, ◌^◌, ◌==◌, []}
use Rattle.omf_records.specs.Layout.{Layout, times, name, choose, called}
use Rattle.omf_image.specs.Blocks.{Block, Repeat, Nest, gathered}
use Rattle.byteorder.specs.Endian.{little_bytes, little_number}
use Rattle.omf_image.specs.declared.part.Part.{Part}
use Rattle.omf_image.specs.declared.part.Part.TheVariants as part

-- A repeat count of `width` bytes (four in a record of odd type, A3H; two in one of even type, A2H) and a block count of two; then a length byte and that many bytes if the block count is 0, else that
-- many blocks. Blocks nest at most `levels` deep; with no level left, the repeat count is refused.
abbrev pub too_deep : ℕ → List Reason
too_deep count = reason.TooDeep ∷ []

-- The size of a part in bytes.
abbrev pub part_size : Part → ℕ
part_size part.Byte = 1
part_size part.Word = 2
part_size part.Dword = 4

-- The bytes of a little-endian number of n bytes after the value is added, modulo 256^n.
abbrev pub sum_bytes : ℕ → List ℕ → ℕ → List ℕ
sum_bytes n bytes value = little_bytes n ((little_number n bytes + value) % 256 ^ n)

abbrev pub block_contents : Layout Block → ℕ → ℕ → Layout Block
block_contents inner count n = choose (n == 0) (called name (λ bytes. Repeat count bytes)) (called (times n inner) (λ bs. Nest count (gathered bs)))
