-- The fields of a line with an entry and a comment.
use Rattle.std.proofs.Common.{◌≡◌, ℕ, suc, ◌+◌, ◌<◌, Bool, true, cond, eqb, not, nat_le, ◌==◌, List, [], ◌∷◌, ◌++◌, length, reverse, take, refl, sym, ap, subst, ◌∙◌, append_assoc, append-nil, arith, codes}
use Rattle.std.specs.List.{list_all, before_first, prefix_len}
use Rattle.std.proofs.lemmas.Bool.{ne_eqb, and_from, and_parts, cond-false}
use Rattle.std.proofs.lemmas.List.{reverse-reverse, length-reverse, reverse-append}
use Rattle.omf_placement.specs.Entries.{without_return, without_spaces, said}
use Rattle.omf_text.proofs.DigitLaws.{is_mark, mark-low}
use Rattle.omf_text.proofs.PrintedLaws.{Passes, both-pass, pass-more, is_printed, mark-printed}

reverse-onto : (test : ℕ → Bool) (xs : List ℕ) → Passes test xs → Passes test (reverse xs)
reverse-onto test [] h = refl
reverse-onto test (c ∷ xs) h =
    let k = and_parts (test c) (list_all test xs) h in
    subst (Passes test) (sym (reverse-append (c ∷ []) xs)) (both-pass test (reverse xs) (c ∷ []) (reverse-onto test xs k.1) (and_from (test c) true k.0 refl))

abbrev pub is_plain : ℕ → Bool
is_plain c = not (c == 59)

mark-plain : (c : ℕ) → is_mark c ≡ true → is_plain c ≡ true
mark-plain c h = (and_parts (nat_le 33 c) (not (c == 59)) h).1

-- A field has a byte, and only marks, so no space is at its ends.
pub record IsWord (w : List ℕ) : Type 0 where
  pub some : 0 < length w
  pub marks : Passes is_mark w

stands : (w ys : List ℕ) → IsWord w → without_spaces (w ++ ys) ≡ w ++ ys
stands [] ys h = absurd (omega (arith, h.some))
stands (c ∷ w) ys h =
    let low = mark-low c (and_parts (is_mark c) (list_all is_mark w) h.marks).0 in
    cond-false (eqb c 32) (without_spaces (w ++ ys)) (c ∷ (w ++ ys)) (ne_eqb c 32 (λ e. absurd (omega arith)))

-- What is left by trimming, without a comment.
pub record IsTight (e : List ℕ) : Type 0 where
  pub front : (ys : List ℕ) → without_spaces (e ++ ys) ≡ e ++ ys
  pub back : (ys : List ℕ) → without_spaces (reverse e ++ ys) ≡ reverse e ++ ys
  pub plain : Passes is_plain e
  pub printed : Passes is_printed e

pub tight-word : (w : List ℕ) → IsWord w → IsTight w
tight-word w h = record {
  front = λ ys. stands w ys h;
  back = λ ys. stands (reverse w) ys (record { some = omega (arith, length-reverse w, h.some); marks = reverse-onto is_mark w h.marks });
  plain = pass-more is_mark is_plain mark-plain w h.marks;
  printed = pass-more is_mark is_printed mark-printed w h.marks;
}

turned : (a b ys : List ℕ) → reverse (a ++ 32 ∷ b) ++ ys ≡ reverse b ++ (32 ∷ reverse a ++ ys)
turned a b ys =
    ap (λ t. t ++ ys) (reverse-append a (32 ∷ b) ∙ ap (λ t. t ++ reverse a) (reverse-append (32 ∷ []) b) ∙ append_assoc (reverse b) (32 ∷ []) (reverse a))
    ∙ append_assoc (reverse b) (32 ∷ reverse a) ys

pub tight-two : (a b : List ℕ) → IsTight a → IsTight b → IsTight (a ++ 32 ∷ b)
tight-two a b h k = record {
  front = λ ys. ap without_spaces (append_assoc a (32 ∷ b) ys) ∙ h.front (32 ∷ b ++ ys) ∙ sym (append_assoc a (32 ∷ b) ys);
  back = λ ys. ap without_spaces (turned a b ys) ∙ k.back (32 ∷ reverse a ++ ys) ∙ sym (turned a b ys);
  plain = both-pass is_plain a (32 ∷ b) h.plain k.plain;
  printed = both-pass is_printed a (32 ∷ b) h.printed k.printed;
}

-- The end of a line stays if a comment precedes it.
return-kept : (xs : List ℕ) (d : ℕ) (ys : List ℕ) → without_return (xs ++ 59 ∷ d ∷ ys) ≡ xs ++ without_return (59 ∷ d ∷ ys)
return-kept [] d ys = refl
return-kept (x ∷ []) d ys = refl
return-kept (x ∷ y ∷ xs) d ys = ap (λ t. x ∷ t) (return-kept (y ∷ xs) d ys)

comment-cut : (xs ys : List ℕ) → Passes is_plain xs → before_first (λ c. c == 59) (xs ++ 59 ∷ ys) ≡ xs
comment-cut [] ys h = refl
comment-cut (c ∷ xs) ys h =
    let k = and_parts (is_plain c) (list_all is_plain xs) h in
    let n = prefix_len (λ x. not (x == 59)) (xs ++ 59 ∷ ys) in
    let one : 1 + n ≡ suc n = omega arith in
    ap (λ b. take (cond b (1 + n) 0) (c ∷ (xs ++ 59 ∷ ys))) k.0
    ∙ ap (λ j. take j (c ∷ (xs ++ 59 ∷ ys))) one ∙ ap (λ t. c ∷ t) (comment-cut xs ys k.1)

pub is-said : (e c : List ℕ) → IsTight e → said (e ++ codes " ; " ++ c) ≡ e
is-said e c h =
    let before : List ℕ = e ++ 32 ∷ [] in
    let spelled : e ++ codes " ; " ++ c ≡ before ++ 59 ∷ 32 ∷ c = append_assoc e (32 ∷ 59 ∷ 32 ∷ []) c ∙ sym (append_assoc e (32 ∷ []) (59 ∷ 32 ∷ c)) in
    let cut : before_first (λ x. x == 59) (without_return (e ++ codes " ; " ++ c)) ≡ before
    = ap (λ t. before_first (λ x. x == 59) (without_return t)) spelled ∙ ap (before_first (λ x. x == 59)) (return-kept before 32 c)
    ∙ comment-cut before (without_return (32 ∷ c)) (both-pass is_plain e (32 ∷ []) h.plain refl) in
    let back : reverse before ≡ 32 ∷ reverse e = reverse-append e (32 ∷ []) in
    ap (λ t. reverse (without_spaces (reverse (without_spaces t)))) cut
    ∙ ap (λ t. reverse (without_spaces (reverse t))) (h.front (32 ∷ []))
    ∙ ap (λ t. reverse (without_spaces t)) back
    ∙ ap (λ t. reverse (without_spaces t)) (sym (append-nil (reverse e))) ∙ ap reverse (h.back [] ∙ append-nil (reverse e)) ∙ reverse-reverse e
