-- Blocks within some limits are within all larger limits.
use Rattle.std.proofs.Common.{ℕ, zero, suc, ◌+◌, ◌≤◌, Bool, true, false, List, [], ◌∷◌, length, arith}
use Rattle.std.specs.Prelude.{◌==◌}
use Rattle.omf_records.specs.Values.{At}
use Rattle.omf_records.specs.Layout.{Layout, le, name, called, choose, times, SpellsEach}
use Rattle.omf_image.specs.Inner.Names.{block_contents}
use Rattle.omf_image.specs.Blocks.{Block, Blocks, Repeat, Nest, gathered, block, AreBlocks}
use Rattle.omf_image.specs.declared.limits.Limits.{Limits}

-- what one layout spells, another does
abbrev Grows : {A : Type 0} → Layout A → Layout A → Type 0
Grows {A = A} p q = (at : ℕ) (bytes : List ℕ) (x : A) → p.Spells at bytes x → q.Spells at bytes x

times_grow : (p q : Layout Block) → Grows p q → (n : ℕ) → Grows (times n p) (times n q)
times_grow p q h zero at bytes xs s = s
times_grow p q h (suc n) at bytes xs (front, back, x, parts, sp, (f, b, ys, cut, sq, end)) = (front, back, x, parts, h at front x sp, (f, b, ys, cut, times_grow p q h n (at + length front) f ys sq, end))

each_grow : (p q : Layout Block) → Grows p q → (at : ℕ) (bytes : List ℕ) (xs : List (At Block)) → SpellsEach p at bytes xs → SpellsEach q at bytes xs
each_grow p q h at bytes [] s = s
each_grow p q h at bytes (x ∷ xs) (front, back, parts, w, sp, rest) = (front, back, parts, w, h at front x.item sp, each_grow p q h (at + length front) back xs rest)

contents_grow : (p q : Layout Block) → Grows p q → (count n : ℕ) → Grows (block_contents p count n) (block_contents q count n)
contents_grow p q h count n = by (n == 0)
  where
    by : (b : Bool) → Grows (choose b (called name (λ bytes. Repeat count bytes)) (called (times n p) (λ bs. Nest count (gathered bs))))
        (choose b (called name (λ bytes. Repeat count bytes)) (called (times n q) (λ bs. Nest count (gathered bs))))
    by true at bytes x s = s
    by false at bytes x (xs, s, e) = (xs, times_grow p q h n at bytes xs s, e)

block_grows : (width m n : ℕ) → m ≤ n → Grows (block width m) (block width n)
block_grows width zero n le at bytes x (count, (s, none), e) = absurd cc
block_grows width (suc m) zero le at bytes x s = absurd (omega arith)
block_grows width (suc m) (suc n) le at bytes x (front, back, count, parts, sp, (f, b, blocks, cut, sq, body)) =
    let lower : m ≤ n = omega arith in
    (front, back, count, parts, sp, (f, b, blocks, cut, sq, contents_grow (block width m) (block width n) (block_grows width m n lower) count blocks (at + length front + length f) b x body))

pub blocks_grow : (width : ℕ) (small large : Limits) (bytes : List ℕ) (trees : Blocks) → small.nesting ≤ large.nesting → small.expanded ≤ large.expanded
    → AreBlocks width small bytes trees → AreBlocks width large bytes trees
blocks_grow width small large bytes trees deeper longer ((xs, s, e), size) =
    ((xs, each_grow (block width small.nesting) (block width large.nesting) (block_grows width small.nesting large.nesting deeper) 0 bytes xs s, e), omega arith)
