-- Lists, one element after another: what is written, and the lines of what is left, are the whole; pairs of modules and what belongs to them.
use Rattle.std.proofs.Common.{◌≡◌, ℕ, zero, suc, ◌+◌, ◌<◌, ◌≤◌, List, [], ◌∷◌, ◌++◌, length, drop, get_or, sym, ap, ap₂, ◌∙◌, arith, append_assoc, map}
use Rattle.std.specs.Prelude.{flat_map, Some, slice_get, zip}
use Rattle.std.specs.List.{enumerate_from}
use Rattle.std.proofs.Math.Seq.{drop-cons, drop-nil}
use Rattle.std.proofs.lemmas.List.{append-nil, drop_all, drop_more}
use Rattle.std.proofs.lemmas.Option.{slice_get_within, get_or_from_slice_get}
use Rattle.omf_check.specs.Module.{Module, records_in, typed_modules}
use Rattle.omf_check.specs.Tables.{entry}
use Rattle.omf_check.specs.WellFormed.{recs}
use Rattle.omf_placement.proofs.NamedLaws.{entry-suc}

-- The next of a list, by its number from 0, and none.
pub next_item : {A : Type 0} (xs : List A) (i : ℕ) (x : A) → x ≡ get_or xs i x → i < length xs → drop i xs ≡ x ∷ drop (i + 1) xs
next_item xs i x e h = drop_more xs i x h ∙ ap (λ y. y ∷ drop (i + 1) xs) (sym e)

pub record ArePrinted {A B : Type 0} (f : ℕ × A → List B) (xs : List A) (i : ℕ) (old now : List B) : Type 0 where
  pub whole : now ++ flat_map f (enumerate_from (i + 1) (drop i xs)) ≡ old ++ flat_map f (enumerate_from 1 xs)

pub next_entry : {A : Type 0} (xs : List A) (i : ℕ) (x : A) → entry xs (i + 1) ≡ Some x → drop i xs ≡ x ∷ drop (i + 1) xs
next_entry xs i x e =
    let a : suc i ≡ i + 1 = omega arith in
    let here : slice_get xs i ≡ Some x = sym (entry-suc xs i) ∙ ap (entry xs) a ∙ e in
    let low = slice_get_within xs i x here in
    drop-cons xs i x low ∙ ap (λ y. y ∷ drop (suc i) xs) (get_or_from_slice_get xs i x x here) ∙ ap (λ k. x ∷ drop k xs) a

module _ {A B : Type 0} (f : ℕ × A → List B) (xs : List A) (i : ℕ) (old now : List B) where
  pub one_more : (x : A) (new : List B) → drop i xs ≡ x ∷ drop (i + 1) xs → new ≡ now ++ f (i + 1, x) → ArePrinted f xs i old now → ArePrinted f xs (i + 1) old new
  one_more x new next e before = record {
    whole = ap (λ t. t ++ flat_map f (enumerate_from (i + 1 + 1) (drop (i + 1) xs))) e
        ∙ append_assoc now (f (i + 1, x)) (flat_map f (enumerate_from (i + 1 + 1) (drop (i + 1) xs)))
        ∙ ap (λ l. now ++ flat_map f (enumerate_from (i + 1) l)) (sym next) ∙ before.whole;
  }

  pub all_printed : drop i xs ≡ [] → ArePrinted f xs i old now → now ≡ old ++ flat_map f (enumerate_from 1 xs)
  all_printed none h = sym (append-nil now) ∙ ap (λ l. now ++ flat_map f (enumerate_from (i + 1) l)) (sym none) ∙ h.whole

pub none_left : {A : Type 0} (xs : List A) (i : ℕ) → length xs ≤ i → drop i xs ≡ []
none_left xs i le = drop_all i xs le

-- the same, of lines that are not numbered: one part more, and no part left
pub part_more : {B : Type 0} (old new part rest left all : List B) → new ≡ old ++ part → left ≡ part ++ rest → old ++ left ≡ all → new ++ rest ≡ all
part_more old new part rest left all e f h = ap (λ t. t ++ rest) e ∙ append_assoc old part rest ∙ ap (λ t. old ++ t) (sym f) ∙ h

pub no_part_left : {B : Type 0} (old left all : List B) → left ≡ [] → old ++ left ≡ all → old ≡ all
no_part_left old left all e h = sym (append-nil old) ∙ ap (λ t. old ++ t) (sym e) ∙ h

-- The next of several modules, with what belongs to it.
pub next-pair : {B : Type 0} (ms : List Module) (bs : List B) (j : ℕ) (m : Module) (b : B) → m ≡ get_or ms j m → b ≡ get_or bs j b → j < length ms → length bs ≡ length ms
    → drop j (zip (typed_modules ms) bs) ≡ (recs (records_in m.bytes), b) ∷ drop (j + 1) (zip (typed_modules ms) bs)
next-pair [] bs j m b c d l e = absurd (omega (arith, l))
next-pair (x ∷ ms) [] j m b c d l e = absurd (omega (arith, e))
next-pair (x ∷ ms) (y ∷ bs) zero m b c d l e = ap₂ (λ u v. (recs (records_in u.bytes), v) ∷ zip (typed_modules ms) bs) (sym c) (sym d)
next-pair (x ∷ ms) (y ∷ bs) (suc j) m b c d l e =
    let same : suc (j + 1) ≡ suc j + 1 = omega arith in
    next-pair ms bs j m b c d (omega (arith, l)) (omega (arith, e)) ∙ ap (λ n. (recs (records_in m.bytes), b) ∷ drop n (zip (typed_modules (x ∷ ms)) (y ∷ bs))) same

pub no-pair : {B : Type 0} (ms : List Module) (bs : List B) (j : ℕ) → length ms ≤ j → drop j (zip (typed_modules ms) bs) ≡ []
no-pair [] bs j h = drop-nil j
no-pair (m ∷ ms) [] j h = drop-nil j
no-pair (m ∷ ms) (b ∷ bs) zero h = absurd (omega (arith, h))
no-pair (m ∷ ms) (b ∷ bs) (suc j) h = no-pair ms bs j (omega (arith, h))

-- One value more of a list that is mapped, and no value left.
pub one_mapped : {A B : Type 0} (f : A → B) (old new : List B) (x : A) (rest next : List A) (all : List B) → new ≡ old ++ f x ∷ [] → rest ≡ x ∷ next → old ++ map f rest ≡ all → new ++ map f next ≡ all
one_mapped f old new x rest next all e left h = ap (λ t. t ++ map f next) e ∙ append_assoc old (f x ∷ []) (map f next) ∙ ap (λ l. old ++ map f l) (sym left) ∙ h

pub no_more_mapped : {A B : Type 0} (f : A → B) (old : List B) (rest : List A) (all : List B) → rest ≡ [] → old ++ map f rest ≡ all → old ≡ all
no_more_mapped f old rest all none h = sym (append-nil old) ∙ ap (λ l. old ++ map f l) (sym none) ∙ h
