-- The externals of a module, each with whether it is local.
use Rattle.std.proofs.Common.{◌≡◌, ℕ, zero, suc, ◌+◌, ◌-◌, ◌≤◌, List, [], ◌∷◌, length, map, refl, sym, ap, ap₂, ◌∙◌, length-append, arith}
use Rattle.std.specs.Prelude.{false, nat_le, zip, slice_get, Some, None, unwrap_or}
use Rattle.std.proofs.lemmas.Bool.{cond-true, le-leb}
use Rattle.std.proofs.lemmas.List.{length-map}
use Rattle.std.proofs.lemmas.Option.{none-some, same_Some}
use Rattle.omf_frame.specs.Types.{is_local}
use Rattle.omf_records.specs.Values.{Rec}
use Rattle.omf_check.specs.Tables.{externals, locals, defined_externals, entry}
use Rattle.omf_placement.specs.Derive.{named_externals}

-- The entry with an index, from 1.
pub entry-suc : {A : Type 0} (xs : List A) (j : ℕ) → entry xs (suc j) ≡ slice_get xs j
entry-suc xs j = cond-true (nat_le 1 (suc j)) (slice_get xs (suc j - 1)) None (le-leb 1 (suc j) (omega arith)) ∙ ap (slice_get xs) (omega arith)

same-count : (m : List Rec) → length (locals m) ≡ length (externals m)
same-count [] = refl
same-count (r ∷ rs) =
    length-append (map (λ e. is_local r.kind) (defined_externals r.contents)) (locals rs)
    ∙ ap₂ (λ a b. a + b) (length-map (defined_externals r.contents) (λ e. is_local r.kind)) (same-count rs)
    ∙ sym (length-append (defined_externals r.contents) (externals rs))

zip-count : {A B : Type 0} (xs : List A) (ys : List B) → length ys ≡ length xs → length (zip xs ys) ≡ length xs
zip-count [] ys h = refl
zip-count (x ∷ xs) [] h = absurd (omega (arith, h))
zip-count (x ∷ xs) (y ∷ ys) h = ap (λ n. suc n) (zip-count xs ys (omega (arith, h)))

zip-entry : {A B : Type 0} (d : B) (xs : List A) (ys : List B) (k : ℕ) (x : A) → length ys ≡ length xs → slice_get xs k ≡ Some x
    → slice_get (zip xs ys) k ≡ Some (x, unwrap_or (slice_get ys k) d)
zip-entry d [] ys k x l h = absurd (none-some x h)
zip-entry d (a ∷ xs) [] k x l h = absurd (omega (arith, l))
zip-entry d (a ∷ xs) (b ∷ ys) zero x l h = ap (λ z. Some (z, b)) (same_Some a x h)
zip-entry d (a ∷ xs) (b ∷ ys) (suc k) x l h = zip-entry d xs ys k x (omega (arith, l)) h

pub named-count : (m : List Rec) → length (named_externals m) ≡ length (externals m)
named-count m = zip-count (externals m) (locals m) (same-count m)

pub named-entry : (m : List Rec) (i : ℕ) (name : List ℕ) → 1 ≤ i → entry (externals m) i ≡ Some name
    → entry (named_externals m) i ≡ Some (name, unwrap_or (entry (locals m) i) false)
named-entry m i name low e =
    let back : suc (i - 1) ≡ i = omega (arith, low) in
    let here = sym (entry-suc (externals m) (i - 1)) ∙ ap (entry (externals m)) back ∙ e in
    let local = sym (entry-suc (locals m) (i - 1)) ∙ ap (entry (locals m)) back in
    ap (entry (named_externals m)) (sym back) ∙ entry-suc (named_externals m) (i - 1) ∙ zip-entry false (externals m) (locals m) (i - 1) name (same-count m) here
    ∙ ap (λ o. Some (name, unwrap_or o false)) local
