-- The externals that need no public, and pairs of weak externals, one after another.
use Rattle.std.proofs.Common.{◌≡◌, ℕ, zero, suc, ◌+◌, ◌<◌, ◌≤◌, List, [], ◌∷◌, length, drop, get_or, refl, sym, ap, ◌∙◌, arith}
use Rattle.std.specs.Prelude.{Bool, option_map, None, slice_get}
use Rattle.omf_records.specs.Values.{Rec}
use Rattle.omf_check.specs.Tables.{entry, externals}
use Rattle.omf_placement.specs.Derive.{named_externals}
use Rattle.omf_placement.specs.declared.several.pairs.WeakPair.{WeakPair}
use Rattle.omf_placement.proofs.NamedLaws.{entry-suc, named-count}
use Rattle.omf_externals.specs.Unresolved.{Row, seen_count, spots_of}

-- The next of a list.
pub next_of : {A : Type 0} (xs : List A) (i : ℕ) → i < length xs → (x : A) × (drop i xs ≡ x ∷ drop (i + 1) xs)
next_of [] i h = absurd (omega (arith, h))
next_of (x ∷ xs) zero h = (x, refl)
next_of (x ∷ xs) (suc i) h =
    let n = next_of xs i (omega (arith, h)) in
    let same : suc (i + 1) ≡ suc i + 1 = omega arith in
    (n.0, n.1 ∙ ap (λ k. n.0 ∷ drop k (x ∷ xs)) same)

pub next_at : {A : Type 0} (xs : List A) (i : ℕ) (d : A) → i < length xs → drop i xs ≡ get_or xs i d ∷ drop (i + 1) xs
next_at [] i d h = absurd (omega (arith, h))
next_at (y ∷ xs) zero d h = refl
next_at (y ∷ xs) (suc i) d h =
    let same : suc (i + 1) ≡ suc i + 1 = omega arith in next_at xs i d (omega (arith, h)) ∙ ap (λ k. get_or xs i d ∷ drop k (y ∷ xs)) same

abbrev pub no_pair : WeakPair
no_pair = record { weak = 0; substitute = 0 }

-- An index that a table does not have.
none_at : {A : Type 0} (xs : List A) (k : ℕ) → length xs ≤ k → slice_get xs k ≡ None
none_at [] k h = refl
none_at (x ∷ xs) zero h = absurd (omega arith)
none_at (x ∷ xs) (suc k) h = none_at xs k (omega arith)

pub no_entry : {A : Type 0} (xs : List A) (i : ℕ) → length xs < i → entry xs i ≡ None
no_entry xs zero h = absurd (omega arith)
no_entry xs (suc k) h = entry-suc xs k ∙ none_at xs k (omega arith)

pub not_seen : (among : Bool → List Row) (m : List Rec) (i : ℕ) → length (externals m) < i → None ≡ seen_count among m i
not_seen among m i h = ap (option_map (λ e. length (spots_of (among e.1) e.0))) (sym (no_entry (named_externals m) i (omega (arith, h, named-count m))))
