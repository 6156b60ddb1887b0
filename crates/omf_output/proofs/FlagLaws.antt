-- Flags that are compared one after another.
use Rattle.std.proofs.Common.{◌≡◌, ◌≢◌, ℕ, zero, suc, ◌+◌, ◌<◌, ◌≤◌, List, [], ◌∷◌, length, drop, get_or, Bool, true, false, refl, sym, ap, ap₂, ◌∙◌, arith}
use Rattle.std.specs.Prelude.{Some, None, map, not, slice_get, cond}
use mathlib.Core.Bool.{beq}
use Rattle.std.proofs.lemmas.List.{length-map}
use Rattle.std.proofs.lemmas.Option.{slice_get-get_or}
use Rattle.omf_records.specs.Values.{Rec}
use Rattle.omf_check.specs.declared.segment.SegInfo.{SegInfo}
use Rattle.omf_check.specs.Tables.{entry, segments}
use Rattle.std.proofs.Math.ListN.{drop_of_length-le}
use Rattle.omf_check.specs.Threads.{same}
use Rattle.omf_output.specs.Exe.Based.{is_movable, same_flags, segments_moving}
use Rattle.omf_placement.proofs.ListLaws.{entry-at, next-at}

-- Lists of different lengths are not the same.
pub flags-differ : (bs cs : List Bool) → length bs ≢ length cs → same_flags bs cs ≡ false
flags-differ [] [] n = absurd (n refl)
flags-differ [] (c ∷ cs) n = refl
flags-differ (b ∷ bs) [] n = refl
flags-differ (b ∷ bs) (c ∷ cs) n = by (same b c) (flags-differ bs cs (λ e. n (ap (λ k. suc k) e)))
  where
    by : (x : Bool) → same_flags bs cs ≡ false → cond x (same_flags bs cs) false ≡ false
    by true e = e
    by false e = refl

-- The next flags of two lists, and none.
pub flags-next : (bs cs : List Bool) (k : ℕ) (b c : Bool) → slice_get bs k ≡ Some b → slice_get cs k ≡ Some c → same_flags (drop k bs) (drop k cs) ≡ cond (same b c) (same_flags (drop (k + 1) bs) (drop (k + 1) cs)) false
flags-next bs cs k b c e f = ap₂ (λ xs ys. same_flags xs ys) (next-at bs k b e) (next-at cs k c f)

pub flags-end : (bs cs : List Bool) (k : ℕ) → length bs ≤ k → length cs ≤ k → same_flags (drop k bs) (drop k cs) ≡ true
flags-end bs cs k e f = ap₂ (λ xs ys. same_flags xs ys) (drop_of_length-le bs e) (drop_of_length-le cs f)

-- A test of two flags.
same-flag : (b c : Bool) → not (beq b c) ≡ false → same b c ≡ true
same-flag true true e = refl
same-flag true false e = absurd cc
same-flag false true e = absurd cc
same-flag false false e = refl

other-flag : (b c : Bool) → not (beq b c) ≡ true → same b c ≡ false
other-flag true true e = absurd cc
other-flag true false e = refl
other-flag false true e = refl
other-flag false false e = absurd cc

flag-at : {A : Type 0} (f : A → Bool) (xs : List A) (k : ℕ) (x : A) → entry xs (k + 1) ≡ Some x → slice_get (map f xs) k ≡ Some (f x)
flag-at f xs k x e = mapped xs k (sym (entry-at xs k) ∙ e)
  where
    mapped : (ys : List _) (n : ℕ) → slice_get ys n ≡ Some x → slice_get (map f ys) n ≡ Some (f x)
    mapped [] n g = absurd cc
    mapped (y ∷ ys) zero g = let t : y ≡ x = cc in ap (λ z. Some (f z)) t
    mapped (y ∷ ys) (suc n) g = mapped ys n g

none-there : {A : Type 0} (xs : List A) (k : ℕ) → slice_get xs k ≡ None → k < length xs → ⊥
none-there [] k e h = absurd (omega (arith, h))
none-there (x ∷ xs) zero e h = absurd cc
none-there (x ∷ xs) (suc k) e h = none-there xs k e (omega (arith, h))

pub none-entered : {A : Type 0} (xs : List A) (k : ℕ) → entry xs (k + 1) ≡ None → k < length xs → ⊥
none-entered xs k e h = none-there xs k (sym (entry-at xs k) ∙ e) h

-- A flag that is compared with that of a segment.
module _ (flags : List Bool) (m : List Rec) (k : ℕ) (s : SegInfo) (moves : Bool) (low : k < length flags) (at : entry (segments m) (k + 1) ≡ Some s) (is : moves ≡ is_movable s.absolute) where
  step : same_flags (drop k flags) (drop k (segments_moving m)) ≡ cond (same (get_or flags k false) moves) (same_flags (drop (k + 1) flags) (drop (k + 1) (segments_moving m))) false
  step =
      flags-next flags (segments_moving m) k (get_or flags k false) (is_movable s.absolute) (slice_get-get_or flags k false low) (flag-at (λ (x : SegInfo). is_movable x.absolute) (segments m) k s at)
      ∙ ap (λ b. cond (same (get_or flags k false) b) (same_flags (drop (k + 1) flags) (drop (k + 1) (segments_moving m))) false) (sym is)

  pub flag-agrees : not (beq (get_or flags k false) moves) ≡ false → same_flags (drop (k + 1) flags) (drop (k + 1) (segments_moving m)) ≡ same_flags (drop k flags) (drop k (segments_moving m))
  flag-agrees e = sym (step ∙ ap (λ b. cond b (same_flags (drop (k + 1) flags) (drop (k + 1) (segments_moving m))) false) (same-flag (get_or flags k false) moves e))

  pub flag-differs : not (beq (get_or flags k false) moves) ≡ true → same_flags (drop k flags) (drop k (segments_moving m)) ≡ false
  flag-differs e = step ∙ ap (λ b. cond b (same_flags (drop (k + 1) flags) (drop (k + 1) (segments_moving m))) false) (other-flag (get_or flags k false) moves e)

pub many-flags : (m : List Rec) → length (segments_moving m) ≡ length (segments m)
many-flags m = length-map (segments m) (λ (s : SegInfo). is_movable s.absolute)
