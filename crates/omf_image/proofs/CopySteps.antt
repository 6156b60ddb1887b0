-- Steps of the functions that expand blocks.
use Rattle.std.proofs.Common.{◌≡◌, ◌⊎◌, inl, inr, ℕ, zero, suc, ◌+◌, ◌-◌, ◌*◌, ◌<◌, ◌≤◌, Bool, true, false, List, [], ◌∷◌, ◌++◌, append_assoc, length, length-append, length-drop, take, drop, Result, Ok, Err, refl, sym, ◌∙◌, ap, subst, arith}
use Rattle.std.specs.Prelude.{IsOk, slice_range}
use Rattle.std.specs.List.{repeat}
use Rattle.std.proofs.lemmas.List.{append-nil, take_at, drop_at, drop-append-le}
use Rattle.std.proofs.Math.Nat.{mul-le-mul_right}
use Rattle.omf_frame.specs.Fault.{Fault}
use Rattle.omf_frame.specs.declared.fault.Reason.TheVariants as reason
use Rattle.omf_records.specs.Inner.FieldReaders.{le_read}
use Rattle.omf_records.specs.Layout.{fault}
use Rattle.omf_records.specs.Inner.Reads.{After, after, Reading, and_then}
use Rattle.omf_image.specs.Blocks.{repeated}
use Rattle.omf_image.specs.Inner.Copying.{bytes_times, bytes_contents, bytes_block, wanted, IsMoved}
use Rattle.omf_image.proofs.BlocksLaws.{length-repeated}
use Rattle.omf_image.proofs.FoldSteps.{lower, one_more}

-- ---- the parts of a spelled block

ok_first : {A B : Type 0} (r : Result A Fault) (f : A → Result B Fault) → IsOk (and_then r f) → (a : A) × (r ≡ Ok a) × IsOk (f a)
ok_first (Ok a) f h = (a, refl, h)
ok_first (Err e) f h = absurd cc

module _ (width levels at : ℕ) (bytes : List ℕ) (ok : IsOk (bytes_block width levels at bytes)) where
  never_deep : (l : ℕ) → l ≡ 0 → IsOk (bytes_block width l at bytes) → ⊥
  never_deep l e h =
      let q = ok_first (le_read width at bytes) (λ c. Err (fault at reason.TooDeep)) (subst (λ k. IsOk (bytes_block width k at bytes)) e h) in
      let bad = q.2 in absurd cc

  pub block_some : levels ≡ 0 → ⊥
  block_some e = never_deep levels e ok

  pub block_levels : 0 < levels
  block_levels = let e = lower levels block_some in omega (arith, e)

  parts : IsOk (bytes_block width (suc (levels - 1)) at bytes)
  parts = subst (λ l. IsOk (bytes_block width l at bytes)) (lower levels block_some) ok

  pub block_counts : IsOk (le_read width at bytes)
  block_counts = let q = ok_first (le_read width at bytes) _ parts in subst (λ r. IsOk r) (sym q.1) refl

  module _ (count c : ℕ) (cr : List ℕ) (h : Ok (after count c cr) ≡ le_read width at bytes) where
    abbrev contents_ok : After ℕ → Result (After (List ℕ)) Fault
    contents_ok n = and_then (bytes_contents (bytes_block width (levels - 1)) n.value n.within n.rest) (λ x. Ok (after (repeated count x.value) x.within x.rest))

    rest_ok : IsOk (and_then (le_read 2 c cr) contents_ok)
    rest_ok = subst (λ q. IsOk (and_then q (λ count. and_then (le_read 2 count.within count.rest) (λ n. and_then (bytes_contents (bytes_block width (levels - 1)) n.value n.within n.rest)
        (λ x. Ok (after (repeated count.value x.value) x.within x.rest)))))) (sym h) parts

    pub block_words : IsOk (le_read 2 c cr)
    block_words = let q = ok_first (le_read 2 c cr) contents_ok rest_ok in subst (λ r. IsOk r) (sym q.1) refl

    module _ (n k : ℕ) (kr : List ℕ) (g : Ok (after n k kr) ≡ le_read 2 c cr) where
      pub contents_are : IsOk (bytes_contents (bytes_block width (levels - 1)) n k kr)
      contents_are =
          let q : IsOk (contents_ok (after n k kr)) = subst (λ r. IsOk (and_then r contents_ok)) (sym g) rest_ok in
          let a = ok_first (bytes_contents (bytes_block width (levels - 1)) n k kr) (λ x. Ok (after (repeated count x.value) x.within x.rest)) q in
          subst (λ r. IsOk r) (sym a.1) refl

-- ---- repeated bytes

repeat_more : (n : ℕ) (xs : List ℕ) → repeat n xs ++ xs ≡ xs ++ repeat n xs
repeat_more zero xs = sym (append-nil xs)
repeat_more (suc n) xs = append_assoc xs (repeat n xs) xs ∙ ap (λ ys. xs ++ ys) (repeat_more n xs)

pub repeated_more : (n : ℕ) (xs : List ℕ) → repeated n xs ++ xs ≡ repeated (suc n) xs
repeated_more n [] = refl
repeated_more n (x ∷ xs) = repeat_more n (x ∷ xs)

repeat_add : (m k : ℕ) (xs : List ℕ) → repeat m xs ++ repeat k xs ≡ repeat (m + k) xs
repeat_add zero k xs = let e : k ≡ 0 + k = omega arith in ap (λ n. repeat n xs) e
repeat_add (suc m) k xs =
    let e : suc (m + k) ≡ suc m + k = omega arith in
    append_assoc xs (repeat m xs) (repeat k xs) ∙ ap (λ ys. xs ++ ys) (repeat_add m k xs) ∙ ap (λ n. repeat n xs) e

pub repeated_add : (m k : ℕ) (xs : List ℕ) → repeated m xs ++ repeated k xs ≡ repeated (m + k) xs
repeated_add m k [] = refl
repeated_add m k (x ∷ xs) = repeat_add m k (x ∷ xs)

pub first_repeated : (n : ℕ) (xs : List ℕ) → xs ++ repeated n xs ≡ repeated (suc n) xs
first_repeated n [] = refl
first_repeated n (x ∷ xs) = refl

pub repeated_none : (xs : List ℕ) → repeated 0 xs ≡ []
repeated_none [] = refl
repeated_none (x ∷ xs) = refl

pub nothing_repeated : (n : ℕ) (xs : List ℕ) → length xs ≡ 0 → repeated n xs ≡ []
nothing_repeated n [] h = refl
nothing_repeated n (x ∷ xs) h = absurd (omega (arith, h))

-- the bytes before those appended
pub slice_front : (xs ys : List ℕ) (from : ℕ) → from ≤ length xs → slice_range (xs ++ ys) from (length xs) ≡ drop from xs
slice_front xs ys from h =
    ap (λ zs. take (length xs - from) zs) (drop-append-le from xs ys h) ∙ take_at (drop from xs) ys (length xs - from) (length-drop from xs)

-- ---- sequences

pub moves_then : {a b c : List ℕ} {m n k i j : ℕ} {x y : List ℕ} → IsMoved a m b n i x → IsMoved b n c k j y → IsMoved a m c k (i + j) (x ++ y)
moves_then {a} {b} {c} {m} {n} {k} {i} {j} {x} {y} g h = record {
  appended = h.appended ∙ ap (λ z. z ++ y) g.appended ∙ append_assoc a x y;
  most = omega (arith, g.most, h.most, length-append x y);
  least = omega (arith, g.least, h.least, length-append x y);
}

pub moves_as : {a b : List ℕ} {m n i j : ℕ} {x y : List ℕ} → IsMoved a m b n i x → i ≡ j → x ≡ y → IsMoved a m b n j y
moves_as {a} {b} {m} {n} {i} {j} {x} {y} h e f = subst (λ z. IsMoved a m b n j z) f (subst (λ k. IsMoved a m b n k x) e h)

pub moves_none : (a : List ℕ) (m i : ℕ) → i ≡ 0 → IsMoved a m a m i []
moves_none a m i e = record { appended = sym (append-nil a); most = omega arith; least = omega arith }

pub wanted_all : (want : Bool) (x : List ℕ) → want ≡ true → x ≡ wanted want x
wanted_all true x e = refl
wanted_all false x e = absurd cc

pub wanted_none : (want : Bool) (x : List ℕ) → want ≡ false → [] ≡ wanted want x
wanted_none true x e = absurd cc
wanted_none false x e = refl

pub wanted_nothing : (want : Bool) → [] ≡ wanted want []
wanted_nothing true = refl
wanted_nothing false = refl

pub wanted_more : (want : Bool) (x y : List ℕ) → wanted want x ++ wanted want y ≡ wanted want (x ++ y)
wanted_more true x y = refl
wanted_more false x y = refl

-- ---- the contents of a block

module _ (block : Reading (List ℕ)) (n i at : ℕ) (front bytes : List ℕ) (low : i < n) where
  pub times_ok : IsOk (bytes_times block (n - i) front at bytes) → IsOk (block at bytes)
  times_ok h =
      let k : IsOk (bytes_times block (suc (n - (i + 1))) front at bytes) = subst (λ m. IsOk (bytes_times block m front at bytes)) (one_more n i low) h in
      let a = ok_first (block at bytes) (λ a. bytes_times block (n - (i + 1)) (front ++ a.value) a.within a.rest) k in
      subst (λ r. IsOk r) (sym a.1) refl

-- bytes written once and then repeated
pub written_again : (n : ℕ) (x : List ℕ) → (n ≡ 0 → ⊥) → x ++ repeated (n - 1) x ≡ repeated n x
written_again zero x some = absurd (some refl)
written_again (suc n) x some = let e : suc n - 1 ≡ n = omega arith in ap (λ k. x ++ repeated k x) e ∙ first_repeated n x

pub written_never : (n : ℕ) (x : List ℕ) → n ≡ 0 → repeated n x ≡ []
written_never n x e = ap (λ k. repeated k x) e ∙ repeated_none x

-- bytes that are not wanted, or are repeated 0 times, are not written
pub unwanted : (want : Bool) (n : ℕ) (x : List ℕ) → (want ≡ false) ⊎ ((want ≡ true) × (n ≡ 0)) → [] ≡ wanted want (repeated n x)
unwanted want n x (inl e) = wanted_none want (repeated n x) e
unwanted want n x (inr (e, none)) = sym (written_never n x none) ∙ wanted_all want (repeated n x) e

-- the last bytes written
pub back_part : (a b x : List ℕ) (from : ℕ) → b ≡ a ++ x → from ≡ length a → drop from b ≡ x
back_part a b x from e f = ap (λ k. drop k b) f ∙ ap (λ z. drop (length a) z) e ∙ drop_at a x (length a) refl

-- ---- whole copies and a part of one

module _ (old : List ℕ) (from done more len : ℕ) (inside : from ≤ length old) (size : len ≡ length old - from) (some : 1 ≤ done) (within : more ≤ done) where
  abbrev part : List ℕ
  part = drop from old

  part_long : length part ≡ len
  part_long = length-drop from old ∙ sym size

  pub copy_end : from + more * len ≤ length (old ++ repeated (done - 1) part)
  copy_end =
      let long : length (repeated (done - 1) part) ≡ (done - 1) * length part = length-repeated (done - 1) part in
      let all : length (old ++ repeated (done - 1) part) ≡ length old + (done - 1) * len =
      length-append old (repeated (done - 1) part) ∙ ap (λ n. length old + n) (long ∙ ap (λ n. (done - 1) * n) part_long) in
      let same : done * len ≡ (done - 1) * len + len = ap (λ n. n * len) (let e : done ≡ suc (done - 1) = omega arith in e) ∙ omega arith in
      omega (arith, all, same, mul-le-mul_right len within, inside, size)

  pub copy_part : slice_range (old ++ repeated (done - 1) part) from (from + more * len) ≡ repeated more part
  copy_part =
      let all : done ≡ suc (done - 1) = omega arith in
      let cut : from + more * len - from ≡ more * len = omega arith in
      let long : length (repeated more part) ≡ more * len = length-repeated more part ∙ ap (λ n. more * n) part_long in
      let two : more + (done - more) ≡ done = omega arith in
      ap (λ zs. take (from + more * len - from) zs) (drop-append-le from old (repeated (done - 1) part) inside ∙ first_repeated (done - 1) part ∙ ap (λ n. repeated n part) (sym all))
      ∙ ap (λ n. take n (repeated done part)) cut
      ∙ ap (λ zs. take (more * len) zs) (sym (repeated_add more (done - more) part ∙ ap (λ n. repeated n part) two))
      ∙ take_at (repeated more part) (repeated (done - more) part) (more * len) long

  pub copies_more : repeated (done - 1) part ++ repeated more part ≡ repeated (done + more - 1) part
  copies_more = let e : done - 1 + more ≡ done + more - 1 = omega arith in repeated_add (done - 1) more part ∙ ap (λ n. repeated n part) e
