-- The size is the number of bytes.
use Rattle.std.proofs.Common.{◌≡◌, ℕ, zero, suc, ◌*◌, List, [], ◌∷◌, refl, ◌∙◌, ap, length, length-append, arith}
use Rattle.std.specs.List.{repeat}
use Rattle.omf_image.specs.Blocks.{Block, Blocks, Repeat, Nest, NoBlocks, First, repeated, block_bytes, blocks_bytes, block_size, blocks_size}

length-repeat : (n : ℕ) (xs : List ℕ) → length (repeat n xs) ≡ n * length xs
length-repeat zero xs = omega arith
length-repeat (suc n) xs = omega (arith, length-append xs (repeat n xs), length-repeat n xs)

pub length-repeated : (n : ℕ) (xs : List ℕ) → length (repeated n xs) ≡ n * length xs
length-repeated n [] = omega arith
length-repeated n (x ∷ xs) = length-repeat n (x ∷ xs)

mutual
  pub length-block_bytes : (b : Block) → length (block_bytes b) ≡ block_size b
  length-block_bytes (Repeat n xs) = length-repeated n xs
  length-block_bytes (Nest zero bs) = omega arith
  length-block_bytes (Nest (suc n) bs) = length-repeated (suc n) (blocks_bytes bs) ∙ ap (λ k. suc n * k) (length-blocks_bytes bs)

  pub length-blocks_bytes : (bs : Blocks) → length (blocks_bytes bs) ≡ blocks_size bs
  length-blocks_bytes NoBlocks = refl
  length-blocks_bytes (First b bs) = omega (arith, length-append (block_bytes b) (blocks_bytes bs), length-block_bytes b, length-blocks_bytes bs)
