use Rattle.std.proofs.Common.{◌≡◌, ℕ, zero, suc, List, [], ◌∷◌, refl, sym}
use Rattle.std.specs.List.{repeat}
use Rattle.omf_image.specs.Blocks.{Blocks, Nest, repeated, block_bytes, blocks_bytes}
use Rattle.omf_image.proofs.laws.blocks_are_repeated.Goals as goal

abbrev no_bytes : List ℕ
no_bytes = []

repeat_none : (n : ℕ) → repeat n no_bytes ≡ no_bytes
repeat_none zero = refl
repeat_none (suc n) = repeat_none n

repeated_is : (n : ℕ) (bytes : List ℕ) → repeated n bytes ≡ repeat n bytes
repeated_is n [] = sym (repeat_none n)
repeated_is n (b ∷ bytes) = refl

nested : (n : ℕ) (trees : Blocks) → block_bytes (Nest n trees) ≡ repeat n (blocks_bytes trees)
nested zero trees = refl
nested (suc n) trees = repeated_is (suc n) (blocks_bytes trees)

pub returns : goal.returns
returns c = (repeated_is, nested)
