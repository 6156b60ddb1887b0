-- The words of a relocation table, one after another.
use Rattle.std.proofs.Common.{◌≡◌, ℕ, zero, suc, ◌+◌, ◌-◌, ◌*◌, ◌<◌, List, [], ◌∷◌, ◌++◌, sym, ap, ◌∙◌, arith, append_assoc}
use Rattle.omf_output.specs.Exe.Loading.{table, word}

pub table_more : (file : List ℕ) (n at : ℕ) → 0 < n → table file n at ≡ (16 * word file (at + 2) + word file at) ∷ table file (n - 1) (at + 4)
table_more file zero at h = absurd (omega (arith, h))
table_more file (suc n) at h = let e : n ≡ suc n - 1 = omega arith in ap (λ k. (16 * word file (at + 2) + word file at) ∷ table file k (at + 4)) e

pub one_word : (file words new all : List ℕ) (left next w : ℕ) → 0 < left → w ≡ 16 * word file (next + 2) + word file next → new ≡ words ++ w ∷ [] → words ++ table file left next ≡ all → new ++ table file (left - 1) (next + 4) ≡ all
one_word file words new all left next w h is e before =
    ap (λ t. t ++ table file (left - 1) (next + 4)) e ∙ append_assoc words (w ∷ []) (table file (left - 1) (next + 4))
    ∙ ap (λ t. words ++ t) (ap (λ v. v ∷ table file (left - 1) (next + 4)) is ∙ sym (table_more file left next h)) ∙ before
