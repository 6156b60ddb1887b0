-- The places of a pattern among candidates.
use Rattle.std.proofs.Common.{◌≡◌, ℕ, Bool, true, false, cond, List, [], ◌∷◌, refl, ap, ◌∙◌}
use Rattle.std.specs.Prelude.{filter}
use Rattle.omf_finding.specs.Candidates.{CandidatesSuffice}
use Rattle.omf_finding.specs.Places.{lies_at}

module _ (p q : ℕ → Bool) (weaker : (x : ℕ) → p x ≡ true → q x ≡ true) where
  step : (b c : Bool) (x : ℕ) (xs ys : List ℕ) → (b ≡ true → c ≡ true) → p x ≡ b → filter p xs ≡ ys → filter p (cond c (x ∷ xs) xs) ≡ cond b (x ∷ ys) ys
  step true true x xs ys w e h = ap (λ (k : Bool). cond k (x ∷ filter p xs) (filter p xs)) e ∙ ap (λ (zs : List ℕ). x ∷ zs) h
  step true false x xs ys w e h = absurd (let t : false ≡ true = w refl in cc)
  step false true x xs ys w e h = ap (λ (k : Bool). cond k (x ∷ filter p xs) (filter p xs)) e ∙ h
  step false false x xs ys w e h = h

  filter-among : (xs : List ℕ) → filter p (filter q xs) ≡ filter p xs
  filter-among [] = refl
  filter-among (x ∷ xs) = step (p x) (q x) x (filter q xs) (filter p xs) (weaker x) refl (filter-among xs)

pub candidates-suffice : CandidatesSuffice
candidates-suffice pattern program test weaker xs = filter-among (lies_at pattern program) test weaker xs
