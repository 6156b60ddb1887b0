-- The bytes computed without trees are those of the trees.
use Rattle.std.proofs.Common.{◌≡◌, ℕ, zero, suc, ◌<◌, ◌≤◌, List, [], ◌∷◌, ◌++◌, append_assoc, length, length-drop, drop, Result, Ok, Err, refl, sym, ◌∙◌, ap, subst, arith}
use Rattle.std.specs.Prelude.{IsOk, ⊤}
use Rattle.std.specs.List.{repeat}
use Rattle.std.proofs.lemmas.List.{append-nil}
use Rattle.omf_frame.specs.Fault.{Fault}
use Rattle.omf_records.specs.Inner.FieldReaders.{name_read, name_reader}
use Rattle.omf_records.specs.Layout.{name}
use Rattle.omf_records.specs.Inner.Readers.{called_reader}
use Rattle.omf_records.specs.Inner.Reads.{After, after, Shrinks, and_then}
use Rattle.omf_image.specs.Blocks.{Blocks, Repeat, Nest, repeated, block_bytes, blocks_bytes}
use Rattle.omf_image.specs.Inner.Copying.{copies, bytes_block, bytes_all}
use Rattle.omf_image.specs.Inner.Expanding.{read_blocks, blocks_or_none, expanded_length, expanded}
use Rattle.omf_image.specs.declared.limits.Limits.{Limits}
use Rattle.omf_image.proofs.LengthLaws.{length_of}
use Rattle.omf_image.proofs.FoldLaws.{Gives, blocks_told, fold_shrinks, all_step}

none_repeated : (n : ℕ) (xs : List ℕ) → n ≡ 0 → repeated n xs ≡ []
none_repeated n [] e = refl
none_repeated n (x ∷ xs) e = ap (λ k. repeat k (x ∷ xs)) e

nest_bytes : (count : ℕ) (trees : Blocks) → block_bytes (Nest count trees) ≡ repeated count (blocks_bytes trees)
nest_bytes zero trees = sym (none_repeated 0 (blocks_bytes trees) refl)
nest_bytes (suc n) trees = refl

-- ---- the bytes of blocks

text_bytes : (count at : ℕ) (bytes : List ℕ) → and_then (name_read at bytes) (λ a. Ok (after (repeated count a.value) a.within a.rest))
    ≡ and_then ((called_reader name (λ (text : List ℕ). Repeat count text) name_reader).read at bytes) (λ a. Ok (after (block_bytes a.value) a.within a.rest))
text_bytes count at bytes = by (name_read at bytes)
  where
    by : (q : Result (After (List ℕ)) Fault) → and_then q (λ a. Ok (after (repeated count a.value) a.within a.rest))
        ≡ and_then (and_then q (λ a. Ok (after (Repeat count a.value) a.within a.rest))) (λ a. Ok (after (block_bytes a.value) a.within a.rest))
    by (Ok a) = refl
    by (Err e) = refl

abbrev front_bytes : List ℕ → Blocks → List ℕ
front_bytes front trees = front ++ blocks_bytes trees

gives_bytes : Gives copies block_bytes front_bytes (λ front. ⊤)
gives_bytes = record {
  none_fits = tt;
  join_fits = λ front b. tt;
  none = λ front fits. sym (append-nil front);
  more = λ front b trees. append_assoc front (block_bytes b) (blocks_bytes trees);
  text = text_bytes;
  nest = λ count trees. sym (nest_bytes count trees);
}

module _ (width levels : ℕ) where
  -- the bytes of all the blocks
  blocks_spelled : (bytes : List ℕ) → bytes_all (bytes_block width levels) (length bytes) [] 0 bytes ≡ and_then (read_blocks width levels bytes) (λ trees. Ok (blocks_bytes trees))
  blocks_spelled = blocks_told copies block_bytes front_bytes (λ front. ⊤) gives_bytes width levels

  bytes_shrinks : Shrinks (bytes_block width levels)
  bytes_shrinks = fold_shrinks copies block_bytes front_bytes (λ front. ⊤) gives_bytes width levels

  -- one of the remaining blocks, and the end
  pub bytes_step : (n : ℕ) (front : List ℕ) (at : ℕ) (bytes : List ℕ) (a : After (List ℕ)) → 0 < length bytes → length bytes ≤ n → Ok a ≡ bytes_block width levels at bytes
      → bytes_all (bytes_block width levels) n (front ++ a.value) a.within a.rest ≡ bytes_all (bytes_block width levels) n front at bytes
  bytes_step = all_step copies block_bytes front_bytes (λ front. ⊤) gives_bytes width levels

  pub bytes_end : (n : ℕ) (front : List ℕ) (at : ℕ) (bytes : List ℕ) → length bytes ≡ 0 → Ok front ≡ bytes_all (bytes_block width levels) n front at bytes
  bytes_end n front at [] none = refl
  bytes_end n front at (b ∷ bytes) none = absurd (omega (arith, none))

-- ---- blocks within the limits

read_ok : (limit : ℕ) (r : Result Blocks Fault) → IsOk (length_of limit r) → IsOk r
read_ok limit (Ok trees) h = refl
read_ok limit (Err e) h = absurd cc

then_ok : {A B : Type 0} (r : Result A Fault) (f : A → B) → IsOk r → IsOk (and_then r (λ a. Ok (f a)))
then_ok (Ok a) f h = refl
then_ok (Err e) f h = absurd cc

pub all_ok : (width : ℕ) (limits : Limits) (bytes : List ℕ) → IsOk (expanded_length width limits bytes) → IsOk (bytes_all (bytes_block width limits.nesting) (length bytes) [] 0 bytes)
all_ok width limits bytes h =
    subst (λ q. IsOk q) (sym (blocks_spelled width limits.nesting bytes))
    (then_ok (read_blocks width limits.nesting bytes) (λ trees. blocks_bytes trees) (read_ok limits.expanded (read_blocks width limits.nesting bytes) h))

value_of : (r : Result Blocks Fault) (out : List ℕ) → Ok out ≡ and_then r (λ trees. Ok (blocks_bytes trees)) → out ≡ blocks_bytes (blocks_or_none r)
value_of (Ok trees) out e = cc
value_of (Err f) out e = absurd cc

pub all_are : (width : ℕ) (limits : Limits) (bytes out : List ℕ) → Ok out ≡ bytes_all (bytes_block width limits.nesting) (length bytes) [] 0 bytes → out ≡ expanded width limits bytes
all_are width limits bytes out e = value_of (read_blocks width limits.nesting bytes) out (e ∙ blocks_spelled width limits.nesting bytes)

module _ (width levels : ℕ) where
  pub first_ok : (n : ℕ) (front : List ℕ) (at : ℕ) (bytes : List ℕ) → 0 < length bytes → length bytes ≤ n → IsOk (bytes_all (bytes_block width levels) n front at bytes) → IsOk (bytes_block width levels at bytes)
  first_ok n front at [] some le h = absurd (omega (arith, some))
  first_ok zero front at (b ∷ bytes) some le h = absurd (omega arith)
  first_ok (suc n) front at (b ∷ bytes) some le h = by (bytes_block width levels at (b ∷ bytes)) h
    where
      by : (r : Result (After (List ℕ)) Fault) → IsOk (and_then r (λ a. bytes_all (bytes_block width levels) n (front ++ a.value) a.within a.rest)) → IsOk r
      by (Ok a) k = refl
      by (Err e) k = absurd cc

  pub later : (pos next : ℕ) (bytes written : List ℕ) → pos ≤ length bytes → next ≤ length bytes → Ok (after written next (drop next bytes)) ≡ bytes_block width levels pos (drop pos bytes) → pos < next
  later pos next bytes written hp hn e =
      let less = bytes_shrinks width levels pos (drop pos bytes) (after written next (drop next bytes)) (sym e) in
      omega (arith, less, length-drop pos bytes, length-drop next bytes)
