-- Texts of a list, one after another.
use Rattle.std.proofs.Common.{◌≡◌, ℕ, zero, suc, ◌+◌, ◌<◌, ◌≤◌, List, [], ◌∷◌, ◌++◌, take, length, get_or, refl, sym, ap, subst, ◌∙◌, append_assoc, arith}
use Rattle.std.specs.Prelude.{flat_map}
use Rattle.std.specs.List.{AllZip}
use Rattle.std.proofs.lemmas.List.{append-nil, take_all}
use Rattle.std.proofs.lemmas.Grind.{flat_map-append}
use Rattle.omf_find.specs.NearLines.{AreTexts}

zip-more : {A B : Type 0} (R : A → B → Type 0) (xs : List A) (ys : List B) (i : ℕ) (x : A) (y : B) → x ≡ get_or xs i x → i < length xs → AllZip R (take i xs) ys → R x y → AllZip R (take (i + 1) xs) (ys ++ y ∷ [])
zip-more R [] ys i x y e l h r = absurd (omega (arith, l))
zip-more R (a ∷ xs) [] zero x y e l h r = (subst (λ z. R z y) e r, tt)
zip-more R (a ∷ xs) (b ∷ ys) zero x y e l h r = absurd h
zip-more R (a ∷ xs) [] (suc i) x y e l h r = absurd h
zip-more R (a ∷ xs) (b ∷ ys) (suc i) x y e l h r =
    let same : suc (i + 1) ≡ suc i + 1 = omega arith in
    subst (λ (n : ℕ). AllZip R (take n (a ∷ xs)) (b ∷ (ys ++ y ∷ []))) same (h.0, zip-more R xs ys i x y e (omega (arith, l)) h.1 r)

-- a text with those of a list appended
abbrev pub AddsTexts : {A : Type 0} → (A → List ℕ → Type 0) → List A → List ℕ → List ℕ → Type 0
AddsTexts IsOne xs old new = (texts : List ℕ) × AreTexts IsOne xs texts × (new ≡ old ++ texts)

module _ {A : Type 0} (IsOne : A → List ℕ → Type 0) (xs : List A) (old : List ℕ) where
  pub texts-none : AddsTexts IsOne (take 0 xs) old old
  texts-none = ([], ([], tt, refl), sym (append-nil old))

  pub texts-more : (now new one : List ℕ) (i : ℕ) (x : A) → x ≡ get_or xs i x → i < length xs → AddsTexts IsOne (take i xs) old now → IsOne x one → new ≡ now ++ one → AddsTexts IsOne (take (i + 1) xs) old new
  texts-more now new one i x e low h p q =
      let each = h.1.0 in
      let last : one ≡ flat_map (λ (t : List ℕ). t) (one ∷ []) = sym (append-nil one) in
      let all : h.0 ++ one ≡ flat_map (λ (t : List ℕ). t) (each ++ one ∷ []) =
      ap (λ (t : List ℕ). t ++ one) h.1.2 ∙ ap (λ (t : List ℕ). flat_map (λ (u : List ℕ). u) each ++ t) last ∙ sym (flat_map-append (λ (t : List ℕ). t) each (one ∷ [])) in (
        h.0 ++ one,
        (each ++ one ∷ [], zip-more IsOne xs each i x one e low h.1.1 p, all),
        q ∙ ap (λ (t : List ℕ). t ++ one) h.2 ∙ append_assoc old h.0 one,
      )

  pub texts-all : (now : List ℕ) (i : ℕ) → length xs ≤ i → AddsTexts IsOne (take i xs) old now → AddsTexts IsOne xs old now
  texts-all now i l h = subst (λ (ys : List A). AddsTexts IsOne ys old now) (take_all i xs l) h

-- three texts, one after another
pub in-three : (old a b c x y z : List ℕ) → x ≡ old ++ a → y ≡ x ++ b → z ≡ y ++ c → z ≡ old ++ (a ++ (b ++ c))
in-three old a b c x y z p q r = r ∙ ap (λ (t : List ℕ). t ++ c) (q ∙ ap (λ (t : List ℕ). t ++ b) p) ∙ append_assoc (old ++ a) b c ∙ append_assoc old a (b ++ c)

pub in-two : (old a b x y : List ℕ) → x ≡ old ++ a → y ≡ x ++ b → y ≡ old ++ (a ++ b)
in-two old a b x y p q = q ∙ ap (λ (t : List ℕ). t ++ b) p ∙ append_assoc old a b
