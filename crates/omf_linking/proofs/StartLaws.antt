-- The main modules that name a start, one after another.
use Rattle.std.proofs.Common.{◌≡◌, ℕ, zero, suc, ◌+◌, ◌<◌, ◌≤◌, List, [], ◌∷◌, ◌++◌, length, drop, get_or, refl, sym, ap, ap₂, ◌∙◌, arith}
use Rattle.std.proofs.Math.Seq.{drop-nil}
use Rattle.std.specs.Prelude.{filter_map, zip, option_to_list, Option, Some, None, Result, Err}
use Rattle.std.specs.List.{enumerate_from}
use Rattle.omf_check.specs.Module.{Module, records_in, typed_modules}
use Rattle.omf_check.specs.WellFormed.{recs}
use Rattle.omf_records.specs.Values.{Rec}
use Rattle.omf_linking.specs.Starts.{main_start, numbered_start, main_starts, one_start}
use Rattle.omf_linking.specs.declared.fault.LinkFault.{LinkFault}
use Rattle.omf_linking.specs.declared.fault.LinkFault.TheVariants as fault
use Rattle.omf_linking.specs.declared.relocated.Relocated.{Relocated}

abbrev pub Placed : Type 0
Placed = List Rec × Relocated

-- the starts of the modules after the first
abbrev pub starts_from : List Placed → ℕ → List (ℕ × (ℕ × ℕ))
starts_from ms j = filter_map numbered_start (enumerate_from j (drop j ms))

pub next_at : (ms : List Module) (rs : List Relocated) (j : ℕ) (m : Module) (r : Relocated) → m ≡ get_or ms j m → r ≡ get_or rs j r → j < length ms → length rs ≡ length ms
    → drop j (zip (typed_modules ms) rs) ≡ (recs (records_in m.bytes), r) ∷ drop (j + 1) (zip (typed_modules ms) rs)
next_at [] rs j m r a b l e = absurd (omega arith)
next_at (x ∷ ms) [] j m r a b l e = absurd (omega arith)
next_at (x ∷ ms) (y ∷ rs) zero m r a b l e = ap₂ (λ (u : Module) (v : Relocated). (recs (records_in u.bytes), v) ∷ zip (typed_modules ms) rs) (sym a) (sym b)
next_at (x ∷ ms) (y ∷ rs) (suc j) m r a b l e =
    let same : suc (j + 1) ≡ suc j + 1 = omega arith in
    next_at ms rs j m r a b (omega arith) (omega arith) ∙ ap (λ (n : ℕ). (recs (records_in m.bytes), r) ∷ drop n (zip (typed_modules (x ∷ ms)) (y ∷ rs))) same

pub none_at : (ms : List Module) (rs : List Relocated) (j : ℕ) → length ms ≤ j → drop j (zip (typed_modules ms) rs) ≡ []
none_at [] rs j h = drop-nil j
none_at (m ∷ ms) [] j h = drop-nil j
none_at (m ∷ ms) (r ∷ rs) zero h = absurd (omega arith)
none_at (m ∷ ms) (r ∷ rs) (suc j) h = none_at ms rs j (omega arith)

module _ (ms : List Placed) (j : ℕ) (m : Placed) (next : drop j ms ≡ m ∷ drop (j + 1) ms) where
  pub no_start : (found : List (ℕ × (ℕ × ℕ))) (whole : Result (Option (ℕ × ℕ)) LinkFault) → main_start m ≡ None
      → one_start (found ++ starts_from ms j) ≡ whole → one_start (found ++ starts_from ms (j + 1)) ≡ whole
  no_start found whole e h =
      let none : numbered_start (j, m) ≡ None = rw e refl in
      let same : filter_map numbered_start ((j, m) ∷ enumerate_from (j + 1) (drop (j + 1) ms)) ≡ starts_from ms (j + 1) = rw none refl in
      ap (λ (xs : List (ℕ × (ℕ × ℕ))). one_start (found ++ xs)) (sym (ap (λ (xs : List Placed). filter_map numbered_start (enumerate_from j xs)) next ∙ same)) ∙ h

  with_start : (s : ℕ × ℕ) → main_start m ≡ Some s → starts_from ms j ≡ (j, s) ∷ starts_from ms (j + 1)
  with_start s e =
      let some : numbered_start (j, m) ≡ Some (j, s) = rw e refl in
      let same : filter_map numbered_start ((j, m) ∷ enumerate_from (j + 1) (drop (j + 1) ms)) ≡ (j, s) ∷ starts_from ms (j + 1) = rw some refl in
      ap (λ (xs : List Placed). filter_map numbered_start (enumerate_from j xs)) next ∙ same

  pub first_start : (s : ℕ × ℕ) (whole : Result (Option (ℕ × ℕ)) LinkFault) → main_start m ≡ Some s → one_start (starts_from ms j) ≡ whole → one_start ((j, s) ∷ starts_from ms (j + 1)) ≡ whole
  first_start s whole e h = ap one_start (sym (with_start s e)) ∙ h

  pub second_start : (s : ℕ × ℕ) (f : ℕ × (ℕ × ℕ)) (whole : Result (Option (ℕ × ℕ)) LinkFault) → main_start m ≡ Some s → one_start (f ∷ starts_from ms j) ≡ whole → Err (fault.Starts f.0 j) ≡ whole
  second_start s f whole e h = sym (ap (λ (xs : List (ℕ × (ℕ × ℕ))). one_start (f ∷ xs)) (with_start s e)) ∙ h

pub all_started : (ms : List Placed) (j : ℕ) (found : Option (ℕ × (ℕ × ℕ))) → drop j ms ≡ [] → one_start (option_to_list found ++ starts_from ms j) ≡ one_start (main_starts ms)
    → one_start (option_to_list found) ≡ one_start (main_starts ms)
all_started ms j None e h = ap (λ (xs : List Placed). one_start (filter_map numbered_start (enumerate_from j xs))) (sym e) ∙ h
all_started ms j (Some f) e h = ap (λ (xs : List Placed). one_start (f ∷ filter_map numbered_start (enumerate_from j xs))) (sym e) ∙ h
