-- Readers of blocks.
use Rattle.std.proofs.Common.{ℕ, zero, suc, [], arith}
use Rattle.std.specs.Prelude.{map, ◌==◌}
use Rattle.omf_records.specs.Layout.{le, name, checked, called, many, times}
use Rattle.omf_records.specs.Inner.Reads.{Reader, Whole, Shrinks}
use Rattle.omf_records.specs.Inner.Steps.{and_then_ok}
use Rattle.omf_records.specs.Inner.FieldReaders.{le_reader, le_read, le_shrinks, name_reader}
use Rattle.omf_records.specs.Inner.Readers.{◌>=>◌, then_shrinks, checked_reader, called_reader, called_whole, choose_reader, times_reader, renamed_shrinks, InOrder, refuse_first}
use Rattle.omf_records.specs.Inner.Many.{each_whole}
use Rattle.omf_image.specs.Inner.Names.{too_deep, block_contents}
use Rattle.omf_image.specs.Blocks.{Repeat, Nest, gathered, block, blocks}

pub one_reason : (count : ℕ) → InOrder (too_deep count)
one_reason count s i = absurd i

abbrev pub contents_reader : (width levels count n : ℕ) → Reader (block width levels) → Reader (block_contents (block width levels) count n)
contents_reader width levels count n inner =
    choose_reader (called name (λ bytes. Repeat count bytes)) (called (times n (block width levels)) (λ bs. Nest count (gathered bs)))
    (called_reader name (λ bytes. Repeat count bytes) name_reader)
    (called_reader (times n (block width levels)) (λ bs. Nest count (gathered bs)) (times_reader n (block width levels) inner))
    (n == 0)

abbrev pub deep_reader : (width : ℕ) → Reader (checked (le width) too_deep)
deep_reader width = checked_reader (le width) too_deep (le_reader width) one_reason

abbrev pub counts_reader : (width levels : ℕ) → Reader (block width levels) → Reader (block width (suc levels))
counts_reader width levels inner = le_reader width >=> λ count. le_reader 2 >=> λ n. contents_reader width levels count n inner

abbrev pub block_reader : (width levels : ℕ) → Reader (block width levels)
block_reader width zero = called_reader (checked (le width) too_deep) (λ count. Repeat count []) (deep_reader width)
block_reader width (suc levels) = counts_reader width levels (block_reader width levels)

-- A reading that succeeds consumes a byte: with no level left none succeeds.
never_deep : (width : ℕ) → Shrinks (deep_reader width).read
never_deep width at bytes a e = let q = and_then_ok (le_read width at bytes) (λ a. refuse_first (too_deep a.value) at a) a e in let e2 = q.2 in absurd cc

pub block_shrinks : (width levels : ℕ) → Shrinks (block_reader width levels).read
block_shrinks width zero at bytes b e = renamed_shrinks (checked (le width) too_deep) (λ count. Repeat count []) (deep_reader width) (never_deep width) at bytes b e
block_shrinks width (suc levels) at bytes b e =
    let inner = block_reader width levels in
    let q = and_then_ok (le_read width at bytes) _ b e in
    let h = (le_reader width).falls at bytes q.0 q.1 in
    let k = then_shrinks (le 2) (λ n. block_contents (block width levels) q.0.value n) (le_reader 2) (λ n. contents_reader width levels q.0.value n inner) (le_shrinks 2 (omega arith)) q.0.within q.0.rest b q.2 in
    omega arith

abbrev pub blocks_whole : (width levels : ℕ) → Whole (blocks width levels)
blocks_whole width levels =
    called_whole (many (block width levels)) (λ bs. gathered (map (λ b. b.item) bs)) (each_whole (block width levels) (block_reader width levels) (block_shrinks width levels))
