-- The text of a line.
use Rattle.std.proofs.Common.{◌≡◌, ◌≢◌, ℕ, List, [], ◌∷◌, ◌++◌, refl, sym, ap, false, eqb}
use Rattle.std.proofs.lemmas.Bool.{ne_eqb}
use Rattle.omf_placement.specs.Entries.{without_return}

-- a carriage return at the end is removed
return_at_end : (front : List ℕ) → without_return (front ++ 13 ∷ []) ≡ front
return_at_end [] = refl
return_at_end (c ∷ []) = refl
return_at_end (c ∷ d ∷ front) = ap (λ t. c ∷ t) (return_at_end (d ∷ front))

pub return_goes : (line front : List ℕ) (last : ℕ) → line ≡ front ++ last ∷ [] → last ≡ 13 → front ≡ without_return line
return_goes line front last e r = rw (e, r) (sym (return_at_end front))

-- any other byte stays
other_at_end : (front : List ℕ) (last : ℕ) → eqb last 13 ≡ false → without_return (front ++ last ∷ []) ≡ front ++ last ∷ []
other_at_end [] last n = rw n refl
other_at_end (c ∷ []) last n = rw n refl
other_at_end (c ∷ d ∷ front) last n = ap (λ t. c ∷ t) (other_at_end (d ∷ front) last n)

pub other_stays : (line front : List ℕ) (last : ℕ) → line ≡ front ++ last ∷ [] → last ≢ 13 → line ≡ without_return line
other_stays line front last e n = rw e (sym (other_at_end front last (ne_eqb last 13 n)))
