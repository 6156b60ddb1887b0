-- A fold over the readings of blocks gives what a fold over their trees gives.
use Rattle.std.proofs.Common.{◌≡◌, ℕ, zero, suc, ◌<◌, ◌≤◌, Bool, cond, List, [], ◌∷◌, length, Result, Ok, Err, refl, sym, ◌∙◌, ap, subst, arith}
use Rattle.std.specs.Prelude.{map, ◌==◌}
use Rattle.omf_frame.specs.Fault.{Fault}
use Rattle.omf_frame.specs.declared.fault.Reason.TheVariants as reason
use Rattle.omf_records.specs.Inner.FieldReaders.{le_read, name_reader}
use Rattle.omf_records.specs.Layout.{fault, name, times}
use Rattle.omf_records.specs.Inner.Readers.{refuse_first, times_reader, called_reader}
use Rattle.omf_records.specs.Inner.Reads.{After, after, Reading, Reader, Shrinks, and_then, each_read, each}
use Rattle.omf_records.specs.Inner.Steps.{and_then_ok}
use Rattle.omf_image.specs.Inner.Names.{too_deep}
use Rattle.omf_image.specs.Inner.BlockReaders.{block_reader, block_shrinks}
use Rattle.omf_image.specs.Blocks.{Block, Blocks, NoBlocks, First, Repeat, Nest, gathered, block}
use Rattle.omf_image.specs.Inner.Expanding.{read_blocks}
use Rattle.omf_image.specs.Inner.Folding.{Folded, fold_times, fold_contents, fold_block, fold_all}
use Rattle.omf_image.proofs.ReadingSteps.{then_same, then_when, then_then, is_some}

-- The value of a block, and that of blocks after others.
pub record Gives {A : Type 0} (f : Folded A) (one : Block → A) (all : A → Blocks → A) (Fits : A → Type 0) : Type 0 where
  pub none_fits : Fits f.none
  pub join_fits : (front : A) (b : Block) → Fits (f.join front (one b))
  pub none : (front : A) → Fits front → front ≡ all front NoBlocks
  pub more : (front : A) (b : Block) (trees : Blocks) → all (f.join front (one b)) trees ≡ all front (First b trees)
  pub text : (count at : ℕ) (bytes : List ℕ) → and_then (f.text at bytes) (λ a. Ok (after (f.again count a.value) a.within a.rest))
      ≡ and_then ((called_reader name (λ (text : List ℕ). Repeat count text) name_reader).read at bytes) (λ a. Ok (after (one a.value) a.within a.rest))
  pub nest : (count : ℕ) (trees : Blocks) → f.again count (all f.none trees) ≡ one (Nest count trees)

module _ {A : Type 0} (f : Folded A) (one : Block → A) (all : A → Blocks → A) (Fits : A → Type 0) (g : Gives f one all Fits) where
  -- the reading of a block
  abbrev told : After Block → After A
  told a = after (one a.value) a.within a.rest

  abbrev Tells : Reading A → Reading Block → Type 0
  Tells p q = (at : ℕ) (bytes : List ℕ) → p at bytes ≡ and_then (q at bytes) (λ a. Ok (told a))

  -- ---- n blocks

  module _ (width levels : ℕ) (p : Reading A) (h : Tells p (block_reader width levels).read) where
    abbrev r : Reader (block width levels)
    r = block_reader width levels

    times_told : (n : ℕ) (front : A) (at : ℕ) (bytes : List ℕ) → Fits front
        → fold_times f p n front at bytes ≡ and_then ((times_reader n (block width levels) r).read at bytes) (λ a. Ok (after (all front (gathered a.value)) a.within a.rest))
    times_told zero front at bytes fits = ap (λ x. Ok (after x at bytes)) (g.none front fits)
    times_told (suc n) front at bytes fits =
        ap (λ x. and_then x (λ a. fold_times f p n (f.join front a.value) a.within a.rest)) (h at bytes)
        ∙ then_then (r.read at bytes) (λ a. Ok (told a)) (λ a. fold_times f p n (f.join front a.value) a.within a.rest)
        ∙ then_same (r.read at bytes) _ _ (λ a.
        times_told n (f.join front (one a.value)) a.within a.rest (g.join_fits front a.value)
        ∙ then_same ((times_reader n (block width levels) r).read a.within a.rest) _ _ (λ b.
        ap (λ x. Ok (after x b.within b.rest)) (g.more front a.value (gathered b.value)))
        ∙ sym (then_then ((times_reader n (block width levels) r).read a.within a.rest) (λ b. Ok (after (a.value ∷ b.value) b.within b.rest))
        (λ b. Ok (after (all front (gathered b.value)) b.within b.rest))))
        ∙ sym (then_then (r.read at bytes) (λ a. and_then ((times_reader n (block width levels) r).read a.within a.rest) (λ b. Ok (after (a.value ∷ b.value) b.within b.rest)))
        (λ b. Ok (after (all front (gathered b.value)) b.within b.rest)))

  -- ---- a block

  deep_told : (width : ℕ) → Tells (fold_block f width 0) (block_reader width 0).read
  deep_told width at bytes = by (le_read width at bytes)
    where
      by : (q : Result (After ℕ) Fault) → and_then q (λ c. Err (fault at reason.TooDeep))
          ≡ and_then (and_then (and_then q (λ a. refuse_first (too_deep a.value) at a)) (λ a. Ok (after (Repeat a.value []) a.within a.rest))) (λ a. Ok (told a))
      by (Ok a) = refl
      by (Err e) = refl

  module _ (width levels : ℕ) (h : Tells (fold_block f width levels) (block_reader width levels).read) where
    abbrev inner : Reader (block width levels)
    inner = block_reader width levels

    abbrev by_count : ℕ → ℕ → Bool → ℕ → List ℕ → Result (After Block) Fault
    by_count count n b at bytes = cond b ((called_reader name (λ (text : List ℕ). Repeat count text) name_reader).read at bytes)
        ((called_reader (times n (block width levels)) (λ bs. Nest count (gathered bs)) (times_reader n (block width levels) inner)).read at bytes)

    contents_told : (count n at : ℕ) (bytes : List ℕ) → and_then (fold_contents f (fold_block f width levels) n at bytes) (λ a. Ok (after (f.again count a.value) a.within a.rest))
        ≡ and_then (by_count count n (n == 0) at bytes) (λ a. Ok (told a))
    contents_told count zero at bytes = g.text count at bytes
    contents_told count (suc n) at bytes =
        let q = (times_reader (suc n) (block width levels) inner).read at bytes in
        ap (λ x. and_then x (λ a. Ok (after (f.again count a.value) a.within a.rest))) (times_told width levels (fold_block f width levels) h (suc n) f.none at bytes g.none_fits)
        ∙ then_then q (λ a. Ok (after (all f.none (gathered a.value)) a.within a.rest)) (λ a. Ok (after (f.again count a.value) a.within a.rest))
        ∙ then_same q _ _ (λ a. ap (λ x. Ok (after x a.within a.rest)) (g.nest count (gathered a.value)))
        ∙ sym (then_then q (λ a. Ok (after (Nest count (gathered a.value)) a.within a.rest)) (λ a. Ok (told a)))
        ∙ sym (ap (λ b. and_then (by_count count (suc n) b at bytes) (λ a. Ok (told a))) (is_some n))

    level_told : Tells (fold_block f width (suc levels)) (block_reader width (suc levels)).read
    level_told at bytes =
        then_same (le_read width at bytes) _ _ (λ c.
        then_same (le_read 2 c.within c.rest) _ _ (λ n. contents_told c.value n.value n.within n.rest)
        ∙ sym (then_then (le_read 2 c.within c.rest) (λ n. by_count c.value n.value (n.value == 0) n.within n.rest) (λ a. Ok (told a))))
        ∙ sym (then_then (le_read width at bytes) (λ c. and_then (le_read 2 c.within c.rest) (λ n. by_count c.value n.value (n.value == 0) n.within n.rest)) (λ a. Ok (told a)))

  block_told : (width levels : ℕ) → Tells (fold_block f width levels) (block_reader width levels).read
  block_told width zero = deep_told width
  block_told width (suc levels) = level_told width levels (block_told width levels)

  -- ---- all blocks

  module _ (width levels : ℕ) where
    abbrev block_read : Reading A
    block_read = fold_block f width levels

    abbrev item : Reading Block
    item = (block_reader width levels).read

    pub fold_shrinks : Shrinks block_read
    fold_shrinks at bytes a e =
        let q = and_then_ok (item at bytes) (λ b. Ok (told b)) a (sym (block_told width levels at bytes) ∙ e) in
        let same : told q.0 ≡ a = let e2 = q.2 in cc in
        subst (λ (x : After A). length x.rest < length bytes) same (block_shrinks width levels at bytes q.0 q.1)

    all_told : (n : ℕ) (front : A) (at : ℕ) (bytes : List ℕ) → Fits front
        → fold_all f block_read n front at bytes ≡ and_then (each_read item n at bytes) (λ xs. Ok (all front (gathered (map (λ b. b.item) xs))))
    all_told n front at [] fits = ap (λ x. Ok x) (g.none front fits)
    all_told zero front at (b ∷ bytes) fits = ap (λ x. Ok x) (g.none front fits)
    all_told (suc n) front at (b ∷ bytes) fits =
        ap (λ x. and_then x (λ a. fold_all f block_read n (f.join front a.value) a.within a.rest)) (block_told width levels at (b ∷ bytes))
        ∙ then_then (item at (b ∷ bytes)) (λ a. Ok (told a)) (λ a. fold_all f block_read n (f.join front a.value) a.within a.rest)
        ∙ then_same (item at (b ∷ bytes)) _ _ (λ a.
        all_told n (f.join front (one a.value)) a.within a.rest (g.join_fits front a.value)
        ∙ then_same (each_read item n a.within a.rest) _ _ (λ xs. ap (λ x. Ok x) (g.more front a.value (gathered (map (λ b. b.item) xs))))
        ∙ sym (then_then (each_read item n a.within a.rest) (λ xs. Ok (record { within = at; item = a.value } ∷ xs)) (λ xs. Ok (all front (gathered (map (λ b. b.item) xs))))))
        ∙ sym (then_then (item at (b ∷ bytes)) (λ a. and_then (each_read item n a.within a.rest) (λ xs. Ok (record { within = at; item = a.value } ∷ xs)))
        (λ xs. Ok (all front (gathered (map (λ b. b.item) xs)))))

    -- the value of all the blocks
    pub blocks_told : (bytes : List ℕ) → fold_all f block_read (length bytes) f.none 0 bytes ≡ and_then (read_blocks width levels bytes) (λ trees. Ok (all f.none trees))
    blocks_told bytes =
        all_told (length bytes) f.none 0 bytes g.none_fits
        ∙ sym (then_then (each item 0 bytes) (λ xs. Ok (gathered (map (λ b. b.item) xs))) (λ trees. Ok (all f.none trees)))

    -- more turns than bytes change nothing
    all_enough : (n m : ℕ) (front : A) (at : ℕ) (bytes : List ℕ) → length bytes ≤ n → length bytes ≤ m → fold_all f block_read n front at bytes ≡ fold_all f block_read m front at bytes
    all_enough n m front at [] hn hm = refl
    all_enough zero m front at (b ∷ bytes) hn hm = absurd (omega arith)
    all_enough (suc n) zero front at (b ∷ bytes) hn hm = absurd (omega arith)
    all_enough (suc n) (suc m) front at (b ∷ bytes) hn hm =
        then_when (block_read at (b ∷ bytes)) _ _ (λ a e.
        let less = fold_shrinks at (b ∷ bytes) a e in
        all_enough n m (f.join front a.value) a.within a.rest (omega (arith, less)) (omega (arith, less)))

    -- one of the remaining blocks
    pub all_step : (n : ℕ) (front : A) (at : ℕ) (bytes : List ℕ) (a : After A) → 0 < length bytes → length bytes ≤ n → Ok a ≡ block_read at bytes
        → fold_all f block_read n (f.join front a.value) a.within a.rest ≡ fold_all f block_read n front at bytes
    all_step n front at [] a some le e = absurd (omega (arith, some))
    all_step zero front at (b ∷ bytes) a some le e = absurd (omega arith)
    all_step (suc n) front at (b ∷ bytes) a some le e =
        let less = fold_shrinks at (b ∷ bytes) a (sym e) in
        all_enough (suc n) n (f.join front a.value) a.within a.rest (omega (arith, less)) (omega (arith, less))
        ∙ ap (λ q. and_then q (λ c. fold_all f block_read n (f.join front c.value) c.within c.rest)) e
