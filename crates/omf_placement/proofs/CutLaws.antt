-- Texts split at a byte.
use Rattle.std.proofs.Common.{◌≡◌, ℕ, ◌<◌, ◌≤◌, Bool, true, false, cond, List, [], ◌∷◌, length, take, drop, get_or, suc, ◌+◌, add-one, drop-cons, length-drop, take_all, refl, sym, ap, ap₂, ◌∙◌, arith}
use Rattle.std.specs.Prelude.{Option, Some, None, unwrap_or, nat_lt, not}
use Rattle.std.specs.List.{position_or_len, slice_split}
use Rattle.std.proofs.lemmas.Bool.{ltb-false}
use Rattle.std.proofs.lemmas.List.Sums.{prefix_len-le-length}
use Rattle.std.proofs.lemmas.List.Splits.{slice_split_first}

-- the position of the first that passes, or the length if there is none
chosen : (b : Bool) (m n : ℕ) → nat_lt m n ≡ b → m ≤ n → unwrap_or (cond b (Some m) None) n ≡ m
chosen true m n e h = refl
chosen false m n e h = omega (arith, ltb-false m n e)

pub place_or_len : (p : ℕ → Bool) (xs : List ℕ) (place : Option ℕ) (r : ℕ) → place ≡ cond (nat_lt (position_or_len p xs) (length xs)) (Some (position_or_len p xs)) None → r ≡ unwrap_or place (length xs) → r ≡ position_or_len p xs
place_or_len p xs place r e f =
    f ∙ ap (λ o. unwrap_or o (length xs)) e ∙ chosen (nat_lt (position_or_len p xs) (length xs)) (position_or_len p xs) (length xs) refl (prefix_len-le-length (λ x. not (p x)) xs)

pub place-le-length : (p : ℕ → Bool) (xs : List ℕ) → position_or_len p xs ≤ length xs
place-le-length p xs = prefix_len-le-length (λ x. not (p x)) xs

-- a text without the byte is one part
whole : (b : Bool) (p : ℕ → Bool) (x : ℕ) (xs : List ℕ) → p x ≡ b → (length xs ≤ position_or_len p xs → slice_split p xs ≡ xs ∷ []) → length (x ∷ xs) ≤ position_or_len p (x ∷ xs) → slice_split p (x ∷ xs) ≡ (x ∷ xs) ∷ []
whole true p x xs e again h = absurd (omega (arith, rw e at h))
whole false p x xs e again h = rw (e, again (omega (arith, rw e at h))) refl

split_whole : (p : ℕ → Bool) (xs : List ℕ) → length xs ≤ position_or_len p xs → slice_split p xs ≡ xs ∷ []
split_whole p [] h = refl
split_whole p (x ∷ xs) h = whole (p x) p x xs refl (split_whole p xs) h

pub cut_nowhere : (p : ℕ → Bool) (xs first more : List ℕ) (place : ℕ) → place ≡ position_or_len p xs → first ≡ take place xs → more ≡ drop place xs → length more ≡ 0 → slice_split p xs ≡ first ∷ []
cut_nowhere p xs first more place e f g z =
    let l : length xs ≤ place = omega (arith, length-drop place xs, ap length g) in
    split_whole p xs (omega arith) ∙ ap (λ t. t ∷ []) (sym (take_all place xs l) ∙ sym f)

-- a text with it has a first part and the parts of the rest
pub cut_at : (p : ℕ → Bool) (xs first more rest : List ℕ) (x place : ℕ) → place ≡ position_or_len p xs → first ≡ take place xs → more ≡ drop place xs → more ≡ x ∷ rest → slice_split p xs ≡ first ∷ slice_split p rest
cut_at p xs first more rest x place e f g h =
    let l : position_or_len p xs < length xs = omega (arith, length-drop place xs, ap length g, ap length h) in
    let m : place < length xs = omega arith in
    let t : x ∷ rest ≡ get_or xs place 0 ∷ drop (suc place) xs = sym h ∙ g ∙ drop-cons xs place 0 m in
    let r : drop (place + 1) xs ≡ rest = rw add-one (cc) in
    slice_split_first p xs 0 l ∙ ap₂ (λ s t. s ∷ slice_split p t) (ap (λ k. take k xs) (sym e) ∙ sym f) (ap (λ k. drop (k + 1) xs) (sym e) ∙ r)
