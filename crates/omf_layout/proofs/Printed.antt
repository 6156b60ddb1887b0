-- The lines of a text, one after another: those printed so far and those left are the whole text.
use Rattle.std.proofs.Common.{◌≡◌, ℕ, zero, suc, ◌+◌, ◌<◌, ◌≤◌, List, [], ◌∷◌, ◌++◌, length, drop, slice_index_or, refl, sym, ap, ap₂, subst, ◌∙◌, ⊎_elim, arith, append_assoc}
use Rattle.std.specs.List.{enumerate_from, zip}
use Rattle.std.specs.Prelude.{flat_map, All, Option, Some, None, option_map, slice_get}
use Rattle.std.proofs.Math.Seq.{drop-cons}
use Rattle.std.proofs.lemmas.Bool.{cases_lt}
use Rattle.std.proofs.lemmas.List.{append-nil, drop_all}
use Rattle.std.proofs.lemmas.Option.{slice_get_within, slice_get-get_or, get_or_from_slice_get, none-some, same_Some}
use Rattle.omf_records.specs.Values.{Contents, Group, GroupItem}
use Rattle.omf_check.specs.Tables.{entry}
use Rattle.omf_placement.proofs.ListLaws.{entry-at}

pub record ArePrinted {A : Type 0} (f : ℕ × A → List ℕ) (xs : List A) (i : ℕ) (old now : List ℕ) : Type 0 where
  pub whole : now ++ flat_map f (enumerate_from (i + 1) (drop i xs)) ≡ old ++ flat_map f (enumerate_from 1 xs)

left-from : {A : Type 0} (xs : List A) (i : ℕ) (x : A) → slice_get xs i ≡ Some x → drop i xs ≡ x ∷ drop (i + 1) xs
left-from xs i x e =
    let low = slice_get_within xs i x e in
    let a : suc i ≡ i + 1 = omega arith in
    drop-cons xs i x low ∙ ap (λ y. y ∷ drop (suc i) xs) (get_or_from_slice_get xs i x x e) ∙ ap (λ k. x ∷ drop k xs) a

pub more-printed : {A : Type 0} (f : ℕ × A → List ℕ) (xs : List A) (i : ℕ) (x : A) (old now new : List ℕ) → ArePrinted f xs i old now → entry xs (i + 1) ≡ Some x → new ≡ now ++ f (i + 1, x) → ArePrinted f xs (i + 1) old new
more-printed f xs i x old now new before here e = record {
  whole = ap (λ t. t ++ flat_map f (enumerate_from (i + 1 + 1) (drop (i + 1) xs))) e
      ∙ append_assoc now (f (i + 1, x)) (flat_map f (enumerate_from (i + 1 + 1) (drop (i + 1) xs)))
      ∙ ap (λ l. now ++ flat_map f (enumerate_from (i + 1) l)) (sym (left-from xs i x (sym (entry-at xs i) ∙ here))) ∙ before.whole;
}

pub all-printed : {A : Type 0} (f : ℕ × A → List ℕ) (xs : List A) (i : ℕ) (old now : List ℕ) → length xs ≤ i → ArePrinted f xs i old now → now ≡ old ++ flat_map f (enumerate_from 1 xs)
all-printed f xs i old now le h = sym (append-nil now) ∙ ap (λ l. now ++ flat_map f (enumerate_from (i + 1) l)) (sym (drop_all i xs le)) ∙ h.whole

-- What holds of each entry so far, and of all at the end.
pub record HoldsTo {A : Type 0} (P : A → Type 0) (xs : List A) (i : ℕ) : Type 0 where
  pub each : (k : ℕ) (x : A) → k < i → slice_get xs k ≡ Some x → P x

pub none-so-far : {A : Type 0} (P : A → Type 0) (xs : List A) → HoldsTo P xs 0
none-so-far P xs = record { each = λ k x low e. absurd (omega arith) }

pub more-hold : {A : Type 0} (P : A → Type 0) (xs : List A) (i : ℕ) (x : A) → HoldsTo P xs i → entry xs (i + 1) ≡ Some x → P x → HoldsTo P xs (i + 1)
more-hold P xs i x before here h = record {
  each = λ k y low e. ⊎_elim
      (λ below. before.each k y below e)
      (λ high. let last : k ≡ i = omega arith in
      subst P (same_Some x y (sym here ∙ entry-at xs i ∙ ap (slice_get xs) (sym last) ∙ e)) h)
      (cases_lt k i);
}

pub all-hold : {A : Type 0} (P : A → Type 0) (xs : List A) (i : ℕ) → length xs ≤ i → HoldsTo P xs i → All P xs
all-hold P xs i end h = λ k d low. h.each k (slice_index_or xs k d) (omega arith) (slice_get-get_or xs k d low)

-- The entry of two zipped lists, and their length.
slice-zip : {A B : Type 0} (xs : List A) (ys : List B) (j : ℕ) (x : A) (y : B) → slice_get xs j ≡ Some x → slice_get ys j ≡ Some y → slice_get (zip xs ys) j ≡ Some (x, y)
slice-zip [] ys j x y e g = absurd (none-some x e)
slice-zip (a ∷ xs) [] j x y e g = absurd (none-some y g)
slice-zip (a ∷ xs) (b ∷ ys) zero x y e g = ap₂ (λ u v. Some (u, v)) (same_Some a x e) (same_Some b y g)
slice-zip (a ∷ xs) (b ∷ ys) (suc j) x y e g = slice-zip xs ys j x y e g

pub entry-zip : {A B : Type 0} (xs : List A) (ys : List B) (j : ℕ) (x : A) (y : B) → entry xs (j + 1) ≡ Some x → entry ys (j + 1) ≡ Some y → entry (zip xs ys) (j + 1) ≡ Some (x, y)
entry-zip xs ys j x y e g = entry-at (zip xs ys) j ∙ slice-zip xs ys j x y (sym (entry-at xs j) ∙ e) (sym (entry-at ys j) ∙ g)

pub zip-short : {A B : Type 0} (xs : List A) (ys : List B) → length (zip xs ys) ≤ length xs
zip-short [] ys = omega arith
zip-short (x ∷ xs) [] = omega arith
zip-short (x ∷ xs) (y ∷ ys) = omega (arith, zip-short xs ys)

-- The GRPDEF of a group that exists.
pub record IsGroup (c : Contents) (o : Option GroupItem) : Type 0 where
  pub group : GroupItem
  pub told : o ≡ Some group
  pub seen : c ≡ Group group

pub group-here : (c : Contents) (o : Option GroupItem) → Some c ≡ option_map Group o → IsGroup c o
group-here c None e = absurd (none-some c (sym e))
group-here c (Some g) e = record { group = g; told = refl; seen = same_Some c (Group g) e }
