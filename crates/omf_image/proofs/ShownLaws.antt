-- The k-th run is the computed one.
use Rattle.std.proofs.Common.{◌≡◌, ℕ, zero, suc, ◌+◌, ◌^◌, ◌<◌, ◌≤◌, List, [], ◌∷◌, length, drop, Option, Some, None, sym, ap, ◌∙◌, arith}
use Rattle.std.specs.Prelude.{Contains, slice_get}
use Rattle.std.proofs.lemmas.List.{drop_all, drop_more}
use Rattle.std.proofs.lemmas.Option.{slice_get_within, get_or_from_slice_get}
use Rattle.omf_image.specs.declared.run.Run.{Run}
use Rattle.omf_image.specs.Inner.Joined.{runs_of}
use Rattle.omf_image.specs.Overlay.{Laid, byte_at, AreRising, IsRunAt, IsRunShown, spanned}
use Rattle.omf_image.proofs.RunLaws.{joined_are_runs, runs_unique}

-- the k-th run is that of the joined runs
pub run_is : (laid : List Laid) (segment k : ℕ) (run : Option Run) → IsRunAt (byte_at laid segment) k run → run ≡ slice_get (runs_of laid segment) k
run_is laid segment k run at = at.2 ∙ ap (λ (rs : List Run). slice_get rs k) (runs_unique (byte_at laid segment) at.0 (runs_of laid segment) at.1 (joined_are_runs laid segment))

pub none_at : (laid : List Laid) (segment k : ℕ) → IsRunAt (byte_at laid segment) k None → slice_get (runs_of laid segment) k ≡ None
none_at laid segment k at = sym (run_is laid segment k None at)

-- ---- how many runs there are

-- each run starts after the one before it
rising_by : (r : Run) (runs : List Run) (k : ℕ) (s : Run) → AreRising (r ∷ runs) → slice_get (r ∷ runs) k ≡ Some s → r.first + k ≤ s.first
rising_by r runs zero s rises e = let same : r ≡ s = cc in let firsts : r.first ≡ s.first = ap (λ (t : Run). t.first) same in omega arith
rising_by r [] (suc k) s rises e = absurd cc
rising_by r (t ∷ runs) (suc k) s rises e = let next = rising_by t runs k s rises.1 e in let lt = rises.0 in omega (arith, next, lt)

begins_from : (runs : List Run) (k : ℕ) (s : Run) → AreRising runs → slice_get runs k ≡ Some s → k ≤ s.first
begins_from [] k s rises e = absurd cc
begins_from (r ∷ runs) k s rises e = let by = rising_by r runs k s rises e in omega (arith, by)

module _ (laid : List Laid) (segment k first : ℕ) (bytes : List ℕ) (run : IsRunShown (byte_at laid segment) k (Some (first, bytes))) where
  abbrev runs : List Run
  runs = runs_of laid segment

  pub number_is : slice_get runs k ≡ Some (spanned first bytes)
  number_is = sym (run_is laid segment k (Some (spanned first bytes)) run.0)

  -- its number is below the number of runs, and no larger than a segment has places
  pub number_low : k < length runs
  number_low = slice_get_within runs k (spanned first bytes) number_is

  pub number_fits : k ≤ 2 ^ 32
  number_fits = omega (arith, begins_from runs k (spanned first bytes) (joined_are_runs laid segment).rising number_is, run.2)

  pub some_bytes : 0 < length bytes
  some_bytes = let c : Contains runs (spanned first bytes) = (k, number_low, get_or_from_slice_get runs k (spanned first bytes) (spanned first bytes) number_is) in ((joined_are_runs laid segment).each (spanned first bytes) c).nonempty

  -- it is before those after it
  pub run_next : drop k runs ≡ spanned first bytes ∷ drop (k + 1) runs
  run_next = drop_more runs k (spanned first bytes) number_low ∙ ap (λ (t : Run). t ∷ drop (k + 1) runs) (get_or_from_slice_get runs k (spanned first bytes) (spanned first bytes) number_is)

past : (runs : List Run) (k : ℕ) → slice_get runs k ≡ None → length runs ≤ k
past [] k none = omega arith
past (r ∷ runs) zero none = absurd cc
past (r ∷ runs) (suc k) none = let next = past runs k none in omega (arith, next)

-- without a k-th run there are no more
pub none_left : (laid : List Laid) (segment k : ℕ) → IsRunShown (byte_at laid segment) k None → drop k (runs_of laid segment) ≡ []
none_left laid segment k none = drop_all k (runs_of laid segment) (past (runs_of laid segment) k (none_at laid segment k none))
