-- Steps of the functions that read blocks to a value other than their trees.
use Rattle.std.proofs.Common.{◌≡◌, ℕ, zero, suc, ◌+◌, ◌-◌, ◌<◌, ◌≤◌, List, Ok, Err, refl, sym, ◌∙◌, ap, arith}
use Rattle.omf_frame.specs.Fault.{Fault}
use Rattle.omf_records.specs.Inner.FieldReaders.{le_read}
use Rattle.omf_records.specs.Inner.Reads.{after, Reading}
use Rattle.omf_image.specs.Inner.Folding.{Folded, fold_times, fold_contents, fold_block}

pub lower : (levels : ℕ) → (levels ≡ 0 → ⊥) → levels ≡ suc (levels - 1)
lower zero some = absurd (some refl)
lower (suc levels) some = omega arith

pub one_more : (n i : ℕ) → i < n → n - i ≡ suc (n - (i + 1))
one_more n i low = omega (arith, low)

module _ {A : Type 0} (f : Folded A) where
  -- the contents, by the test of the block count
  pub text_contents : (block : Reading A) (n : ℕ) → n ≡ 0 → fold_contents f block n ≡ f.text
  text_contents block n e = rw e refl

  pub times_contents : (block : Reading A) (n : ℕ) → (n ≡ 0 → ⊥) → fold_contents f block n ≡ fold_times f block n f.none
  times_contents block zero some = absurd (some refl)
  times_contents block (suc n) some = refl

  -- one of the remaining blocks
  module _ (block : Reading A) (n i : ℕ) (front : A) (at : ℕ) (bytes : List ℕ) (low : i < n) where
    pub times_step : (x : A) (next : ℕ) (rest : List ℕ) → Ok (after x next rest) ≡ block at bytes
        → fold_times f block (n - (i + 1)) (f.join front x) next rest ≡ fold_times f block (n - i) front at bytes
    times_step x next rest e = sym (ap (λ k. fold_times f block k front at bytes) (one_more n i low) ∙ rw (sym e) refl)

    pub times_err : (e : Fault) → Err e ≡ block at bytes → Err e ≡ fold_times f block (n - i) front at bytes
    times_err e is = sym (ap (λ k. fold_times f block k front at bytes) (one_more n i low) ∙ rw (sym is) refl)

  pub times_end : (block : Reading A) (n i : ℕ) (front : A) (at : ℕ) (bytes : List ℕ) → n ≤ i → Ok (after front at bytes) ≡ fold_times f block (n - i) front at bytes
  times_end block n i front at bytes le = let none : n - i ≡ 0 = omega (arith, le) in sym (ap (λ k. fold_times f block k front at bytes) none)

  -- a block, where a level is allowed, from its two counts and its contents
  module _ (width levels at : ℕ) (bytes : List ℕ) (some : levels ≡ 0 → ⊥) (count c : ℕ) (cr : List ℕ) (h : Ok (after count c cr) ≡ le_read width at bytes)
      (n k : ℕ) (kr : List ℕ) (g : Ok (after n k kr) ≡ le_read 2 c cr) where
    pub block_ok : (x : A) (e : ℕ) (er : List ℕ) → Ok (after x e er) ≡ fold_contents f (fold_block f width (levels - 1)) n k kr
        → Ok (after (f.again count x) e er) ≡ fold_block f width levels at bytes
    block_ok x e er q = sym (ap (λ l. fold_block f width l at bytes) (lower levels some) ∙ rw (sym h, sym g, sym q) refl)

    pub block_err : (e : Fault) → Err e ≡ fold_contents f (fold_block f width (levels - 1)) n k kr → Err e ≡ fold_block f width levels at bytes
    block_err e q = sym (ap (λ l. fold_block f width l at bytes) (lower levels some) ∙ rw (sym h, sym g, sym q) refl)
