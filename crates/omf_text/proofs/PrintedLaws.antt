-- Printed bytes: numbers and quoted names have no others.
use Rattle.std.proofs.Common.{◌≡◌, ℕ, zero, suc, ◌-◌, Bool, true, not, ◌&&◌, nat_le, ◌==◌, List, [], ◌∷◌, ◌++◌, length, refl, ◌∙◌, arith}
use Rattle.std.specs.Prelude.{flat_map, replicate, decimal}
use Rattle.std.specs.List.{list_all}
use Rattle.std.proofs.lemmas.Bool.{le-leb, cond_both, and_from, and_parts}
use Rattle.std.proofs.lemmas.List.Folds.{list_all-append}
use Rattle.omf_placement.specs.Quoted.{number, hex, is_plain, escaped, quoted}
use Rattle.omf_text.proofs.DigitLaws.{is_mark, mark-low, marks-number, marks-decimal}

-- Tests that hold of a list.
abbrev pub Passes : (ℕ → Bool) → List ℕ → Type 0
Passes test cs = list_all test cs ≡ true

pub both-pass : (test : ℕ → Bool) (xs ys : List ℕ) → Passes test xs → Passes test ys → Passes test (xs ++ ys)
both-pass test xs ys h k = list_all-append test xs ys ∙ and_from (list_all test xs) (list_all test ys) h k

pub pass-more : (test wider : ℕ → Bool) → ((c : ℕ) → test c ≡ true → wider c ≡ true) → (xs : List ℕ) → Passes test xs → Passes wider xs
pass-more test wider f [] h = refl
pass-more test wider f (c ∷ xs) h = let k = and_parts (test c) (list_all test xs) h in and_from (wider c) (list_all wider xs) (f c k.0) (pass-more test wider f xs k.1)

-- A printed byte.
abbrev pub is_printed : ℕ → Bool
is_printed c = nat_le 32 c

pub mark-printed : (c : ℕ) → is_mark c ≡ true → is_printed c ≡ true
mark-printed c h = let low = mark-low c h in le-leb 32 c (omega arith)

pub marks-printed : (cs : List ℕ) → Passes is_mark cs → Passes is_printed cs
marks-printed cs h = pass-more is_mark is_printed mark-printed cs h

pub printed-decimal : (n : ℕ) → Passes is_printed (decimal n)
printed-decimal n = marks-printed (decimal n) (marks-decimal n)

zeros : (k : ℕ) → Passes is_printed (replicate k 48)
zeros zero = refl
zeros (suc k) = zeros k

printed-escaped : (c : ℕ) → Passes is_printed (escaped c)
printed-escaped c = cond_both (is_plain c) (c ∷ []) (92 ∷ 120 ∷ hex 2 c) (Passes is_printed)
    (λ e. and_from (is_printed c) true (and_parts (nat_le 0x20 c) (nat_le c 0x7E && (not (c == 34) && not (c == 92))) e).0 refl)
    (λ e. both-pass is_printed (replicate (2 - length (number c)) 48) (number c) (zeros (2 - length (number c))) (marks-printed (number c) (marks-number c)))

printed-name : (cs : List ℕ) → Passes is_printed (flat_map escaped cs)
printed-name [] = refl
printed-name (c ∷ cs) = both-pass is_printed (escaped c) (flat_map escaped cs) (printed-escaped c) (printed-name cs)

pub printed-quoted : (cs : List ℕ) → Passes is_printed (quoted cs)
printed-quoted cs = both-pass is_printed (34 ∷ flat_map escaped cs) (34 ∷ []) (printed-name cs) refl
