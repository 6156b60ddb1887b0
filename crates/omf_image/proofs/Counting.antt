-- The length counted without trees is the size of the trees.
use Rattle.std.proofs.Common.{◌≡◌, inl, inr, ℕ, zero, suc, ◌+◌, ◌-◌, ◌*◌, ◌^◌, ◌<◌, ◌≤◌, List, length, Result, Ok, Err, refl, sym, ◌∙◌, ap, arith}
use Rattle.std.proofs.Math.Nat.{min-eq_left, min-eq_right, min-le_left, min-le_right}
use Rattle.std.proofs.lemmas.Bool.Decides.{leb_tells}
use Rattle.omf_frame.specs.Fault.{Fault}
use Rattle.omf_frame.specs.declared.fault.Reason.TheVariants as reason
use Rattle.omf_records.specs.Inner.FieldReaders.{name_read, name_reader}
use Rattle.omf_records.specs.Layout.{fault, name}
use Rattle.omf_records.specs.Inner.Readers.{called_reader}
use Rattle.omf_records.specs.Inner.Reads.{After, after, and_then}
use Rattle.omf_image.specs.Blocks.{Blocks, Repeat, block_size, blocks_size}
use Rattle.omf_image.specs.Inner.Expanding.{read_blocks}
use Rattle.omf_image.proofs.ReadingSteps.{then_same}
use Rattle.omf_image.proofs.LengthLaws.{is_within, is_beyond, judged, length_of}
use Rattle.omf_image.proofs.FoldLaws.{Gives, blocks_told, all_step}
use Rattle.omf_image.specs.Inner.Lengths.{capped, lengths, len_data, len_block, len_all}

-- ---- saturating numbers

abbrev top : ℕ
top = 2 ^ 64 - 1

under : (a : ℕ) → a ≤ top → capped a ≡ a
under a h = min-eq_left h

over : (a : ℕ) → top ≤ a → capped a ≡ top
over a h = min-eq_right h

cap_left : (a b : ℕ) → capped (capped a + b) ≡ capped (a + b)
cap_left a b = elim (leb_tells a top) [
  | inl t ↦ ap (λ n. capped (n + b)) (under a t.1)
  | inr t ↦ ap (λ n. capped (n + b)) (over a (omega (arith, t.1))) ∙ over (top + b) (omega arith) ∙ sym (over (a + b) (omega (arith, t.1)))
]

cap_right : (a b : ℕ) → capped (a + capped b) ≡ capped (a + b)
cap_right a b = elim (leb_tells b top) [
  | inl t ↦ ap (λ n. capped (a + n)) (under b t.1)
  | inr t ↦ ap (λ n. capped (a + n)) (over b (omega (arith, t.1))) ∙ over (a + top) (omega arith) ∙ sym (over (a + b) (omega (arith, t.1)))
]

cap_times : (a b : ℕ) → capped (a * capped b) ≡ capped (a * b)
cap_times zero b = ap capped (omega arith)
cap_times (suc a) b = elim (leb_tells b top) [
  | inl t ↦ ap (λ n. capped (suc a * n)) (under b t.1)
  | inr t ↦ ap (λ n. capped (suc a * n)) (over b (omega (arith, t.1))) ∙ over (suc a * top) (omega arith) ∙ sym (over (suc a * b) (omega (arith, t.1)))
]

cap_sum : (a b c : ℕ) → capped (capped (a + capped b) + c) ≡ capped (a + (b + c))
cap_sum a b c = ap (λ n. capped (n + c)) (cap_right a b) ∙ cap_left (a + b) c ∙ ap capped (omega arith)

cap_low : (a : ℕ) → capped a ≤ top
cap_low a = min-le_right a top

-- ---- the sizes of blocks

abbrev front_size : ℕ → Blocks → ℕ
front_size sum trees = capped (sum + blocks_size trees)

text_size : (count at : ℕ) (bytes : List ℕ) → and_then (len_data at bytes) (λ a. Ok (after (capped (count * a.value)) a.within a.rest))
    ≡ and_then ((called_reader name (λ (text : List ℕ). Repeat count text) name_reader).read at bytes) (λ a. Ok (after (capped (block_size a.value)) a.within a.rest))
text_size count at bytes = by (name_read at bytes)
  where
    by : (q : Result (After (List ℕ)) Fault) → and_then (and_then q (λ a. Ok (after (length a.value) a.within a.rest))) (λ a. Ok (after (capped (count * a.value)) a.within a.rest))
        ≡ and_then (and_then q (λ a. Ok (after (Repeat count a.value) a.within a.rest))) (λ a. Ok (after (capped (block_size a.value)) a.within a.rest))
    by (Ok a) = refl
    by (Err e) = refl

gives_size : Gives lengths (λ b. capped (block_size b)) front_size (λ sum. sum ≤ top)
gives_size = record {
  none_fits = omega arith;
  join_fits = λ sum b. cap_low (sum + capped (block_size b));
  none = λ sum low. sym (ap capped (omega arith) ∙ under sum low);
  more = λ sum b trees. cap_sum sum (block_size b) (blocks_size trees);
  text = text_size;
  nest = λ count trees. cap_times count (0 + blocks_size trees) ∙ ap (λ k. capped (count * k)) (omega arith);
}

module _ (width levels : ℕ) where
  -- the size of all the blocks
  pub blocks_count : (bytes : List ℕ) → len_all (len_block width levels) (length bytes) 0 0 bytes ≡ and_then (read_blocks width levels bytes) (λ trees. Ok (capped (blocks_size trees)))
  blocks_count bytes =
      blocks_told lengths (λ b. capped (block_size b)) front_size (λ sum. sum ≤ top) gives_size width levels bytes
      ∙ then_same (read_blocks width levels bytes) _ _ (λ trees. ap (λ k. Ok (capped k)) (omega arith))

  -- one of the remaining blocks
  pub size_step : (n sum at : ℕ) (bytes : List ℕ) (a : After ℕ) → 0 < length bytes → length bytes ≤ n → Ok a ≡ len_block width levels at bytes
      → len_all (len_block width levels) n (capped (sum + a.value)) a.within a.rest ≡ len_all (len_block width levels) n sum at bytes
  size_step = all_step lengths (λ b. capped (block_size b)) front_size (λ sum. sum ≤ top) gives_size width levels

-- ---- the length within the limit

module _ (limit : ℕ) (small : limit < 2 ^ 32) where
  pub length_ok : (r : Result Blocks Fault) (n : ℕ) → n ≤ limit → Ok n ≡ and_then r (λ trees. Ok (capped (blocks_size trees))) → Ok n ≡ length_of limit r
  length_ok (Ok trees) n le e = elim (leb_tells (blocks_size trees) top) [
    | inl t ↦ let same : n ≡ blocks_size trees = let q : n ≡ capped (blocks_size trees) = cc in q ∙ under (blocks_size trees) t.1 in
        ap Ok same ∙ sym (ap (λ b. judged b (blocks_size trees)) (is_within (blocks_size trees) limit (omega (arith, le, same))))
    | inr t ↦ let same : n ≡ top = let q : n ≡ capped (blocks_size trees) = cc in q ∙ over (blocks_size trees) (omega (arith, t.1)) in absurd (omega (arith, le, same, small))
  ]
  length_ok (Err f) n le e = absurd cc

  pub length_over : (r : Result Blocks Fault) (n : ℕ) → limit < n → Ok n ≡ and_then r (λ trees. Ok (capped (blocks_size trees))) → Err (fault 0 reason.DataTooLong) ≡ length_of limit r
  length_over (Ok trees) n more e =
      let q : n ≡ capped (blocks_size trees) = cc in
      let le : capped (blocks_size trees) ≤ blocks_size trees = min-le_left (blocks_size trees) top in
      sym (ap (λ b. judged b (blocks_size trees)) (is_beyond (blocks_size trees) limit (omega (arith, le, q, more))))
  length_over (Err f) n more e = absurd cc

  pub length_err : (r : Result Blocks Fault) (f : Fault) → Err f ≡ and_then r (λ trees. Ok (capped (blocks_size trees))) → Err f ≡ length_of limit r
  length_err (Ok trees) f e = absurd cc
  length_err (Err g) f e = cc
