-- The computed checksum byte is the one that makes the sum 0.
use Rattle.std.proofs.Common.{◌≡◌, ℕ, ◌+◌, ◌-◌, ◌%◌, ◌/◌, ◌<◌, inl, inr, List, [], ◌∷◌, ◌++◌, sym, ap, ◌∙◌, arith, length}
use Rattle.std.specs.Prelude.{sum, ◌==◌}
use Rattle.std.proofs.lemmas.Bool.{cases_Bool, eqb-true, eqb-false, eq-eqb, ne_eqb}
use Rattle.std.proofs.lemmas.List.Sums.{fold-append}
use Rattle.omf_frame.specs.Framing.{raw_bytes, checksum_of}

same_test : (c s : ℕ) → c < 256 → (c == (256 - s % 256) % 256) ≡ ((s + c) % 256 == 0)
same_test c s low = elim (cases_Bool ((s + c) % 256 == 0)) [
  | inl t ↦ let e = eqb-true ((s + c) % 256) 0 t in eq-eqb c ((256 - s % 256) % 256) (omega (arith, e, low)) ∙ sym t
  | inr t ↦ let e = eqb-false ((s + c) % 256) 0 t in ne_eqb c ((256 - s % 256) % 256) (λ z. e (omega (arith, z, low))) ∙ sym t
]

sum_more : (xs : List ℕ) (c : ℕ) → sum (xs ++ c ∷ []) ≡ sum (xs ++ 0 ∷ []) + c
sum_more xs c =
    let one : sum (xs ++ c ∷ []) ≡ sum xs + c = fold-append (λ a b. a + b) 0 xs (c ∷ []) in
    let none : sum (xs ++ 0 ∷ []) ≡ sum xs + 0 = fold-append (λ a b. a + b) 0 xs (0 ∷ []) in
    omega (arith, one, none)

pub right_test : (kind : ℕ) (body : List ℕ) (c : ℕ) → c < 256 → (c == checksum_of kind body) ≡ (sum (raw_bytes (record { kind = kind; body = body; checksum = c })) % 256 == 0)
right_test kind body c low =
    same_test c (sum (raw_bytes (record { kind = kind; body = body; checksum = 0 }))) low
    ∙ ap (λ s. s % 256 == 0) (sym (sum_more (kind ∷ (length body + 1) % 256 ∷ (length body + 1) / 256 ∷ body) c))
