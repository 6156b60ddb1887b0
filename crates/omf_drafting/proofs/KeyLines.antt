-- Lines with a letter, a key and words, as they are read.
use Rattle.std.proofs.Common.{◌≡◌, ℕ, zero, suc, ◌+◌, ◌-◌, ◌/◌, ◌%◌, ◌<◌, ◌≤◌, ◌^◌, Bool, true, false, cond, eqb, not, nat_le, nat_lt, ◌&&◌, ◌==◌, List, [], ◌∷◌, ◌++◌, length, reverse, take, refl, sym, ap, ◌∙◌, append_assoc, append-nil, arith, codes, inl, inr}
use Rattle.std.specs.Prelude.{◌⊎◌, ◌||◌, All, None, Some, decimal, flat_map, option_and_then, replicate}
use Rattle.std.specs.Char.{digit_value, is_digit}
use Rattle.std.specs.Fmt.{digits, digits_onto, digit_glyph}
use Rattle.std.specs.List.{before_first, list_all, onto_first, prefix_len, slice_split}
use Rattle.std.specs.Str.Parse.{AllDigits}
use Rattle.std.proofs.lemmas.Bool.{and_from, and_parts, cond-false, cond-true, cond_both, false≢true, le-leb, leb-true, lt-ltb, ltb-false, ltb-true, ne_eqb}
use Rattle.std.proofs.lemmas.Fmt.{decimal_is_IsNumeral, length-decimal-le}
use Rattle.std.proofs.lemmas.List.{reverse-reverse}
use Rattle.std.proofs.lemmas.List.Elements.{All-nil, All-cons, All-head, All-tail}
use Rattle.std.proofs.lemmas.List.Splits.{length-slice_split, slice_split_at, slice_split_none}
use Rattle.omf_placement.specs.Entries.{said, without_return, without_spaces}
use Rattle.omf_placement.specs.Inner.EntryReading.{words_of}
use Rattle.omf_placement.specs.Quoted.{escaped, hex, is_plain as is_shown, number}
use Rattle.omf_text.proofs.DigitLaws.{is_mark, marks-decimal}
use Rattle.omf_layout.proofs.SaidLaws.{IsTight, IsWord, is-said, is_plain, tight-two, tight-word}
use Rattle.omf_text.proofs.PrintedLaws.{Passes, both-pass, is_printed, pass-more}
use Rattle.omf_linking.specs.Locator.KeyForms.{key_words}
use Rattle.omf_linking.specs.Locator.LinkEntries.{Blank, Key, Named, Numbered, OfClass, classed_entry, entry_by, entry_of_parts, has_comment, if_short, is_printed as in_name, link_entry_on, name_entry, named_entry, number_of, numbered_entry, unnamed_entry, words_in}

-- ---- digits

abbrev pub is_glyph : ℕ → Bool
is_glyph c = nat_le 48 c && nat_le c 102

glyph : (c : ℕ) → 48 ≤ c → c ≤ 102 → is_glyph c ≡ true
glyph c low high = and_from (nat_le 48 c) (nat_le c 102) (le-leb 48 c low) (le-leb c 102 high)

glyph-is : (upper : Bool) (d : ℕ) → d < 16 → is_glyph (digit_glyph upper d) ≡ true
glyph-is upper d small = cond_both (nat_lt d 10) (48 + d) (cond upper (55 + d) (87 + d)) (λ c. is_glyph c ≡ true)
    (λ e. let low = ltb-true d 10 e in glyph (48 + d) (omega arith) (omega arith))
    (λ e. let high = ltb-false d 10 e in cond_both upper (55 + d) (87 + d) (λ c. is_glyph c ≡ true)
    (λ u. glyph (55 + d) (omega arith) (omega arith))
    (λ u. glyph (87 + d) (omega arith) (omega arith)))

module _ (base : ℕ) (upper : Bool) (small : (n : ℕ) → n % base < 16) where
  glyphs-onto : (fuel n : ℕ) (acc : List ℕ) → Passes is_glyph acc → Passes is_glyph (digits_onto fuel base upper n acc)
  glyphs-onto zero n acc h = h
  glyphs-onto (suc fuel) n acc h =
      let g = digit_glyph upper (n % base) in
      let more : Passes is_glyph (g ∷ acc) = and_from (is_glyph g) (list_all is_glyph acc) (glyph-is upper (n % base) (small n)) h in
      cond_both (eqb (n / base) 0) (g ∷ acc) (digits_onto fuel base upper (n / base) (g ∷ acc)) (Passes is_glyph) (λ e. more) (λ e. glyphs-onto fuel (n / base) (g ∷ acc) more)

  glyphs-digits : (n : ℕ) → Passes is_glyph (digits base upper n)
  unfolding digits
  glyphs-digits n = glyphs-onto 64 n [] refl

pub glyphs-number : (n : ℕ) → Passes is_glyph (number n)
glyphs-number n = glyphs-digits 16 true (λ k. omega arith) n

pub glyphs-decimal : (n : ℕ) → Passes is_glyph (decimal n)
glyphs-decimal n = glyphs-digits 10 false (λ k. omega arith) n

-- ---- bytes of names

-- no quote; no space
abbrev pub Quoteless : List ℕ → Type 0
Quoteless cs = All (λ c. eqb c 34 ≡ false) cs

abbrev pub Spaceless : List ℕ → Type 0
Spaceless cs = All (λ c. eqb c 32 ≡ false) cs

both-all : (P : ℕ → Type 0) (xs ys : List ℕ) → All P xs → All P ys → All P (xs ++ ys)
both-all P [] ys h k = k
both-all P (x ∷ xs) ys h k = All-cons P x (xs ++ ys) (All-head P x xs h) (both-all P xs ys (All-tail P x xs h) k)

pub quoteless-both : (xs ys : List ℕ) → Quoteless xs → Quoteless ys → Quoteless (xs ++ ys)
quoteless-both xs ys h k = both-all (λ c. eqb c 34 ≡ false) xs ys h k

pub quoteless-glyphs : (cs : List ℕ) → Passes is_glyph cs → Quoteless cs
quoteless-glyphs [] h = All-nil (λ c. eqb c 34 ≡ false)
quoteless-glyphs (c ∷ cs) h =
    let k = and_parts (is_glyph c) (list_all is_glyph cs) h in
    let low = leb-true 48 c (and_parts (nat_le 48 c) (nat_le c 102) k.0).0 in
    All-cons (λ d. eqb d 34 ≡ false) c cs (ne_eqb c 34 (λ e. absurd (omega (arith, low, e)))) (quoteless-glyphs cs k.1)

pub spaceless-glyphs : (cs : List ℕ) → Passes is_glyph cs → Spaceless cs
spaceless-glyphs [] h = All-nil (λ c. eqb c 32 ≡ false)
spaceless-glyphs (c ∷ cs) h =
    let k = and_parts (is_glyph c) (list_all is_glyph cs) h in
    let low = leb-true 48 c (and_parts (nat_le 48 c) (nat_le c 102) k.0).0 in
    All-cons (λ d. eqb d 32 ≡ false) c cs (ne_eqb c 32 (λ e. absurd (omega (arith, low, e)))) (spaceless-glyphs cs k.1)

glyph-named : (c : ℕ) → is_glyph c ≡ true → in_name c ≡ true
glyph-named c h =
    let k = and_parts (nat_le 48 c) (nat_le c 102) h in
    let low = leb-true 48 c k.0 in
    let high = leb-true c 102 k.1 in
    and_from (nat_le 0x20 c) (nat_le c 0x7E) (le-leb 0x20 c (omega (arith, low))) (le-leb c 0x7E (omega (arith, high)))

-- the bytes of a name between quotes
pub record IsName (cs : List ℕ) : Type 0 where
  pub quoteless : Quoteless cs
  pub printed : Passes in_name cs

pub no-name : IsName []
no-name = record { quoteless = All-nil (λ c. eqb c 34 ≡ false); printed = refl }

both-names : (xs ys : List ℕ) → IsName xs → IsName ys → IsName (xs ++ ys)
both-names xs ys h k = record { quoteless = quoteless-both xs ys h.quoteless k.quoteless; printed = both-pass in_name xs ys h.printed k.printed }

glyph-name : (cs : List ℕ) → Passes is_glyph cs → IsName cs
glyph-name cs h = record { quoteless = quoteless-glyphs cs h; printed = pass-more is_glyph in_name glyph-named cs h }

zeros : (k : ℕ) → Passes is_glyph (replicate k 48)
zeros zero = refl
zeros (suc k) = zeros k

not-true : (b : Bool) → not b ≡ true → b ≡ false
not-true true h = absurd (false≢true h)
not-true false h = refl

one-shown : (c : ℕ) → is_shown c ≡ true → IsName (c ∷ [])
one-shown c e =
    let a = and_parts (nat_le 0x20 c) (nat_le c 0x7E && (not (c == 34) && not (c == 92))) e in
    let b = and_parts (nat_le c 0x7E) (not (c == 34) && not (c == 92)) a.1 in
    let q = (and_parts (not (c == 34)) (not (c == 92)) b.1).0 in
    record {
      quoteless = All-cons (λ d. eqb d 34 ≡ false) c [] (not-true (c == 34) q) (All-nil (λ d. eqb d 34 ≡ false));
      printed = and_from (in_name c) true (and_from (nat_le 0x20 c) (nat_le c 0x7E) a.0 b.0) refl;
    }

-- a backslash and an x
escape : IsName (92 ∷ 120 ∷ [])
escape = record { quoteless = slash; printed = refl }
  where
    slash : Quoteless (92 ∷ 120 ∷ [])
    slash = All-cons (λ d. eqb d 34 ≡ false) 92 (120 ∷ []) refl (All-cons (λ d. eqb d 34 ≡ false) 120 [] refl (All-nil (λ d. eqb d 34 ≡ false)))

escaped-name : (c : ℕ) → IsName (escaped c)
escaped-name c = cond_both (is_shown c) (c ∷ []) (92 ∷ 120 ∷ hex 2 c) IsName (one-shown c)
    (λ e. both-names (92 ∷ 120 ∷ []) (hex 2 c) escape (glyph-name (hex 2 c) (both-pass is_glyph (replicate (2 - length (number c)) 48) (number c) (zeros (2 - length (number c))) (glyphs-number c))))

pub spelled-name : (cs : List ℕ) → IsName (flat_map escaped cs)
spelled-name [] = no-name
spelled-name (c ∷ cs) = both-names (escaped c) (flat_map escaped cs) (escaped-name c) (spelled-name cs)

name-printed : (cs : List ℕ) → IsName cs → Passes is_printed cs
name-printed cs h = pass-more in_name is_printed (λ c k. (and_parts (nat_le 0x20 c) (nat_le c 0x7E) k).0) cs h.printed

-- a key that can be written
abbrev pub IsKey : Key → Type 0
IsKey (Named n) = IsName n
IsKey (OfClass n c) = IsName n × IsName c
IsKey (Numbered k) = k < 2 ^ 32

pub glyphs-printed : (cs : List ℕ) → Passes is_glyph cs → Passes is_printed cs
glyphs-printed cs h = pass-more in_name is_printed (λ c k. (and_parts (nat_le 0x20 c) (nat_le c 0x7E) k).0) cs (pass-more is_glyph in_name glyph-named cs h)

pub in-quotes : (n : List ℕ) → IsName n → Passes is_printed (34 ∷ n ++ 34 ∷ [])
in-quotes n h = both-pass is_printed n (34 ∷ []) (name-printed n h) refl

pub key-printed : (k : Key) → IsKey k → Passes is_printed (key_words k)
key-printed (Named n) h = in-quotes n h
key-printed (OfClass n c) h = both-pass is_printed (34 ∷ n ++ 34 ∷ []) (32 ∷ (34 ∷ c ++ 34 ∷ [])) (in-quotes n h.0) (in-quotes c h.1)
key-printed (Numbered k) h = glyphs-printed (decimal k) (glyphs-decimal k)

-- ---- the words of a line

kept : (e : List ℕ) → Passes is_printed e → without_return e ≡ e
kept [] h = refl
kept (c ∷ []) h = let low = leb-true 32 c (and_parts (is_printed c) true h).0 in cond-false (c == 13) [] (c ∷ []) (ne_eqb c 13 (λ e. absurd (omega (arith, low, e))))
kept (c ∷ d ∷ cs) h = ap (λ t. c ∷ t) (kept (d ∷ cs) (and_parts (is_printed c) (list_all is_printed (d ∷ cs)) h).1)

uncut : (e : List ℕ) → Passes is_plain e → before_first (λ c. c == 59) e ≡ e
uncut [] h = refl
uncut (c ∷ e) h =
    let k = and_parts (is_plain c) (list_all is_plain e) h in
    let n = prefix_len (λ x. not (x == 59)) e in
    let one : 1 + n ≡ suc n = omega arith in
    ap (λ b. take (cond b (1 + n) 0) (c ∷ e)) k.0 ∙ ap (λ j. take j (c ∷ e)) one ∙ ap (λ t. c ∷ t) (uncut e k.1)

trimmed : (e : List ℕ) → ((ys : List ℕ) → without_spaces (e ++ ys) ≡ e ++ ys) → without_spaces e ≡ e
trimmed e h = ap without_spaces (sym (append-nil e)) ∙ h [] ∙ append-nil e

said-alone : (e : List ℕ) → IsTight e → said e ≡ e
said-alone e t =
    ap (λ x. reverse (without_spaces (reverse (without_spaces (before_first (λ c. c == 59) x))))) (kept e t.printed)
    ∙ ap (λ x. reverse (without_spaces (reverse (without_spaces x)))) (uncut e t.plain)
    ∙ ap (λ x. reverse (without_spaces (reverse x))) (trimmed e t.front)
    ∙ ap reverse (trimmed (reverse e) t.back) ∙ reverse-reverse e

space-said : (t : List ℕ) → said (32 ∷ t) ≡ said t
space-said [] = refl
space-said (d ∷ cs) =
    let xs = without_return (d ∷ cs) in
    let n = prefix_len (λ x. not (x == 59)) xs in
    let one : 1 + n ≡ suc n = omega arith in
    ap (λ j. reverse (without_spaces (reverse (without_spaces (take j (32 ∷ xs)))))) one

-- ---- parts between quotes

abbrev pub split : List ℕ → List (List ℕ)
split text = slice_split (λ c. eqb c 34) text

front-split : (e z z0 : List ℕ) (more : List (List ℕ)) → Quoteless e → split z ≡ z0 ∷ more → split (e ++ z) ≡ (e ++ z0) ∷ more
front-split [] z z0 more h s = s
front-split (c ∷ e) z z0 more h s =
    cond-false (eqb c 34) ([] ∷ split (e ++ z)) (onto_first c (split (e ++ z))) (All-head (λ d. eqb d 34 ≡ false) c e h)
    ∙ ap (onto_first c) (front-split e z z0 more (All-tail (λ d. eqb d 34 ≡ false) c e h) s)

-- either no quote follows, or a comment begins before the next one
abbrev pub Ends : List ℕ → List (List ℕ) → Type 0
Ends first more = (more ≡ []) ⊎ (has_comment first ≡ true)

-- what ends a line: nothing, or a comment
pub record IsEnd (z : List ℕ) : Type 0 where
  pub first : List ℕ
  pub more : List (List ℕ)
  pub parts : split z ≡ first ∷ more
  pub ends : Ends first more
  pub says : (e : List ℕ) → IsTight e → said (e ++ first) ≡ e

pub no-end : IsEnd []
no-end = record { first = []; more = []; parts = refl; ends = inl refl; says = λ e t. ap said (append-nil e) ∙ said-alone e t }

first-part : (ps : List (List ℕ)) (n : ℕ) → length ps ≡ n + 1 → (x : List ℕ) × (xs : List (List ℕ)) × (ps ≡ x ∷ xs)
first-part [] n e = absurd (omega (arith, e))
first-part (x ∷ xs) n e = (x, xs, refl)

pub comment-end : (c : List ℕ) → IsEnd (codes " ; " ++ c)
comment-end c =
    let p = first-part (split c) _ (length-slice_split (λ x. eqb x 34) c) in
    record {
      first = 32 ∷ 59 ∷ 32 ∷ p.0;
      more = p.1;
      parts = ap (λ ps. onto_first 32 (onto_first 59 (onto_first 32 ps))) p.2;
      ends = inr refl;
      says = λ e t. ap said (sym (append_assoc e (32 ∷ 59 ∷ 32 ∷ []) p.0)) ∙ is-said e p.0 t;
    }

or-true : (b : Bool) → (b || true) ≡ true
or-true true = refl
or-true false = refl

comment-later : (e f : List ℕ) → has_comment f ≡ true → has_comment (e ++ f) ≡ true
comment-later [] f h = h
comment-later (c ∷ e) f h = ap (λ b. (c == 59) || b) (comment-later e f h) ∙ or-true (c == 59)

ends-later : (e first : List ℕ) (more : List (List ℕ)) → Ends first more → Ends (e ++ first) more
ends-later e first more (inl h) = inl h
ends-later e first more (inr h) = inr (comment-later e first h)

-- what follows a name: words, and the end of the line
record IsRest (rest w : List ℕ) : Type 0 where
  pub first : List ℕ
  pub more : List (List ℕ)
  pub parts : split rest ≡ first ∷ more
  pub ends : Ends first more
  pub says : said first ≡ w

nothing-left : IsRest [] []
nothing-left = record { first = []; more = []; parts = refl; ends = inl refl; says = refl }

words-left : (e z : List ℕ) → IsTight e → Quoteless e → IsEnd z → IsRest (32 ∷ (e ++ z)) e
words-left e z t q h = record {
  first = 32 ∷ (e ++ h.first);
  more = h.more;
  parts = ap (onto_first 32) (front-split e z h.first h.more q h.parts);
  ends = ends-later (32 ∷ e) h.first h.more h.ends;
  says = space-said (e ++ h.first) ∙ h.says e t;
}

-- ---- a line with a letter and a key

pub record IsLetter (c : ℕ) : Type 0 where
  pub says : said (c ∷ 32 ∷ []) ≡ c ∷ []
  pub plain : has_comment (c ∷ 32 ∷ []) ≡ false
  pub quoteless : eqb c 34 ≡ false
  pub spaceless : eqb c 32 ≡ false
  pub mark : is_mark c ≡ true

after-name : (letter n first : List ℕ) (more : List (List ℕ)) → Ends first more → named_entry letter (n ∷ first ∷ more) ≡ name_entry letter (Named n) n first
after-name letter n first [] e = refl
after-name letter n first (m ∷ ms) (inl e) = absurd cc
after-name letter n first (m ∷ ms) (inr e) = cond-true (has_comment first) _ _ e

after-class : (letter n k first : List ℕ) (more : List (List ℕ)) → Passes in_name n → Ends first more → classed_entry letter n (k ∷ first ∷ more) ≡ name_entry letter (OfClass n k) k first
after-class letter n k first [] p e = cond-true (list_all in_name n) _ _ p
after-class letter n k first (m ∷ ms) p (inl e) = absurd cc
after-class letter n k first (m ∷ ms) p (inr e) = cond-true (has_comment first && list_all in_name n) _ _ (and_from (has_comment first) (list_all in_name n) e p)

unnamed : (f : List ℕ) (more : List (List ℕ)) → Ends f more → entry_of_parts (f ∷ more) ≡ unnamed_entry (said f)
unnamed f [] e = refl
unnamed f (m ∷ ms) (inl e) = absurd cc
unnamed f (m ∷ ms) (inr e) = cond-true (has_comment f) _ _ e

module _ (c : ℕ) (l : IsLetter c) where
  letter-quoteless : Quoteless (c ∷ 32 ∷ [])
  letter-quoteless = All-cons (λ d. eqb d 34 ≡ false) c (32 ∷ []) l.quoteless (All-cons (λ d. eqb d 34 ≡ false) 32 [] refl (All-nil (λ d. eqb d 34 ≡ false)))

  front-read : (ps : List (List ℕ)) (text : List ℕ) (n : List ℕ) (more : List (List ℕ)) → split text ≡ n ∷ more → link_entry_on (c ∷ 32 ∷ 34 ∷ text) ≡ named_entry (c ∷ []) (n ∷ more)
  front-read ps text n more s =
      ap entry_of_parts (slice_split_at (λ d. eqb d 34) (c ∷ 32 ∷ []) 34 text letter-quoteless refl ∙ ap (λ xs. (c ∷ 32 ∷ []) ∷ xs) s)
      ∙ cond-false (has_comment (c ∷ 32 ∷ [])) _ _ l.plain ∙ ap (λ x. named_entry x (n ∷ more)) l.says

  named-read : (n rest w : List ℕ) → IsName n → IsRest rest w → link_entry_on (c ∷ 32 ∷ 34 ∷ (n ++ 34 ∷ rest)) ≡ entry_by (c ∷ []) (Named n) (words_in w)
  named-read n rest w h r =
      front-read [] (n ++ 34 ∷ rest) n (r.first ∷ r.more) (slice_split_at (λ d. eqb d 34) n 34 rest h.quoteless refl ∙ ap (λ xs. n ∷ xs) r.parts)
      ∙ after-name (c ∷ []) n r.first r.more r.ends ∙ cond-true (list_all in_name n) _ _ h.printed ∙ ap (λ x. entry_by (c ∷ []) (Named n) (words_in x)) r.says

  classed-read : (n k rest w : List ℕ) → IsName n → IsName k → IsRest rest w → link_entry_on (c ∷ 32 ∷ 34 ∷ (n ++ 34 ∷ 32 ∷ 34 ∷ (k ++ 34 ∷ rest))) ≡ entry_by (c ∷ []) (OfClass n k) (words_in w)
  classed-read n k rest w h g r =
      front-read [] (n ++ 34 ∷ 32 ∷ 34 ∷ (k ++ 34 ∷ rest)) n ((32 ∷ []) ∷ k ∷ r.first ∷ r.more)
      (slice_split_at (λ d. eqb d 34) n 34 (32 ∷ 34 ∷ (k ++ 34 ∷ rest)) h.quoteless refl
      ∙ ap (λ xs. n ∷ (32 ∷ []) ∷ xs) (slice_split_at (λ d. eqb d 34) k 34 rest g.quoteless refl ∙ ap (λ xs. k ∷ xs) r.parts))
      ∙ after-class (c ∷ []) n k r.first r.more h.printed r.ends ∙ cond-true (list_all in_name k) _ _ g.printed ∙ ap (λ x. entry_by (c ∷ []) (OfClass n k) (words_in x)) r.says

-- ---- a number as a key

digits-to : (cs : List ℕ) → AllDigits 10 cs → list_all (λ c. is_digit c 10) cs ≡ true
digits-to [] h = refl
digits-to (c ∷ cs) h = and_from (is_digit c 10) (list_all (λ d. is_digit d 10) cs) (lt-ltb (digit_value c) 10 h.0) (digits-to cs h.1)

number-read : (k : ℕ) → k < 2 ^ 32 → number_of (35 ∷ decimal k) ≡ Some k
number-read k h =
    let is = decimal_is_IsNumeral k (omega (arith, h)) in
    let few = length-decimal-le 10 k (omega arith) (omega (arith, h)) (omega (arith, h)) in
    cond-true (nat_lt 0 (length (decimal k)) && (nat_le (length (decimal k)) 10 && list_all (λ c. is_digit c 10) (decimal k))) _ _
    (and_from (nat_lt 0 (length (decimal k))) _ (lt-ltb 0 (length (decimal k)) is.0.0) (and_from (nat_le (length (decimal k)) 10) _ (le-leb (length (decimal k)) 10 few) (digits-to (decimal k) is.0.1)))
    ∙ ap if_short is.1 ∙ cond-true (nat_lt k (2 ^ 32)) (Some k) None (lt-ltb k (2 ^ 32) h)

number-word : (k : ℕ) → IsWord (35 ∷ decimal k)
number-word k = record { some = omega arith; marks = marks-decimal k }

number-spaceless : (k : ℕ) → Spaceless (35 ∷ decimal k)
number-spaceless k = All-cons (λ d. eqb d 32 ≡ false) 35 (decimal k) refl (spaceless-glyphs (decimal k) (glyphs-decimal k))

number-quoteless : (k : ℕ) → Quoteless (35 ∷ decimal k)
number-quoteless k = All-cons (λ d. eqb d 34 ≡ false) 35 (decimal k) refl (quoteless-glyphs (decimal k) (glyphs-decimal k))

-- words that can be written after a key
pub record AreWords (e : List ℕ) (ws : List (List ℕ)) : Type 0 where
  pub tight : IsTight e
  pub quoteless : Quoteless e
  pub some : 0 < length e
  pub words : words_of e ≡ ws

in-all : (e : List ℕ) (ws : List (List ℕ)) → AreWords e ws → words_in e ≡ ws
in-all e ws h = cond-false (length e == 0) _ _ (ne_eqb (length e) 0 (λ z. absurd (omega (arith, z, h.some)))) ∙ h.words

module _ (c : ℕ) (l : IsLetter c) where
  letter-word : IsWord (c ∷ [])
  letter-word = record { some = omega arith; marks = and_from (is_mark c) true l.mark refl }

  plain-read : (e z : List ℕ) → IsTight e → Quoteless e → IsEnd z → link_entry_on (e ++ z) ≡ unnamed_entry e
  plain-read e z t q h =
      ap entry_of_parts (front-split e z h.first h.more q h.parts) ∙ unnamed (e ++ h.first) h.more (ends-later e h.first h.more h.ends) ∙ ap unnamed_entry (h.says e t)

  -- the letter and the number, and words after them
  with-number : ℕ → List ℕ → List ℕ
  with-number k t = c ∷ 32 ∷ 35 ∷ (decimal k ++ t)

  number-alone : (k : ℕ) (z : List ℕ) → k < 2 ^ 32 → IsEnd z → link_entry_on (c ∷ 32 ∷ 35 ∷ (decimal k ++ z)) ≡ entry_by (c ∷ []) (Numbered k) []
  number-alone k z h end =
      let e : List ℕ = c ∷ 32 ∷ 35 ∷ decimal k in
      let tight = tight-two (c ∷ []) (35 ∷ decimal k) (tight-word (c ∷ []) letter-word) (tight-word (35 ∷ decimal k) (number-word k)) in
      let quoteless = quoteless-both (c ∷ 32 ∷ []) (35 ∷ decimal k) (letter-quoteless c l) (number-quoteless k) in
      let words : words_of e ≡ (c ∷ []) ∷ (35 ∷ decimal k) ∷ []
      = slice_split_at (λ d. eqb d 32) (c ∷ []) 32 (35 ∷ decimal k) (All-cons (λ d. eqb d 32 ≡ false) c [] l.spaceless (All-nil (λ d. eqb d 32 ≡ false))) refl
      ∙ ap (λ ws. (c ∷ []) ∷ ws) (slice_split_none (λ d. eqb d 32) (35 ∷ decimal k) (number-spaceless k)) in
      plain-read e z tight quoteless end ∙ ap numbered_entry words ∙ ap (option_and_then (λ n. entry_by (c ∷ []) (Numbered n) [])) (number-read k h)

  number-words : (k : ℕ) (e z : List ℕ) (ws : List (List ℕ)) → k < 2 ^ 32 → AreWords e ws → IsEnd z → link_entry_on (c ∷ 32 ∷ 35 ∷ (decimal k ++ (32 ∷ (e ++ z)))) ≡ entry_by (c ∷ []) (Numbered k) ws
  number-words k e z ws h w end =
      let front : List ℕ = 35 ∷ (decimal k ++ 32 ∷ e) in
      let tight = tight-two (c ∷ []) front (tight-word (c ∷ []) letter-word) (tight-two (35 ∷ decimal k) e (tight-word (35 ∷ decimal k) (number-word k)) w.tight) in
      let after : Quoteless (32 ∷ e) = All-cons (λ d. eqb d 34 ≡ false) 32 e refl w.quoteless in
      let quoteless = quoteless-both (c ∷ 32 ∷ []) front (letter-quoteless c l) (quoteless-both (35 ∷ decimal k) (32 ∷ e) (number-quoteless k) after) in
      let words : words_of (c ∷ 32 ∷ front) ≡ (c ∷ []) ∷ (35 ∷ decimal k) ∷ ws
      = slice_split_at (λ d. eqb d 32) (c ∷ []) 32 front (All-cons (λ d. eqb d 32 ≡ false) c [] l.spaceless (All-nil (λ d. eqb d 32 ≡ false))) refl
      ∙ ap (λ xs. (c ∷ []) ∷ xs) (slice_split_at (λ d. eqb d 32) (35 ∷ decimal k) 32 e (number-spaceless k) refl ∙ ap (λ xs. (35 ∷ decimal k) ∷ xs) w.words) in
      ap (λ t. link_entry_on (c ∷ 32 ∷ 35 ∷ t)) (sym (append_assoc (decimal k) (32 ∷ e) z))
      ∙ plain-read (c ∷ 32 ∷ front) z tight quoteless end ∙ ap numbered_entry words ∙ ap (option_and_then (λ n. entry_by (c ∷ []) (Numbered n) ws)) (number-read k h)

  -- ---- the entry of a line

  pub key-alone : (k : Key) → IsKey k → link_entry_on (c ∷ 32 ∷ key_words k) ≡ entry_by (c ∷ []) k []
  key-alone (Named n) h = named-read c l n [] [] h nothing-left
  key-alone (OfClass n k) h = ap (λ t. link_entry_on (c ∷ 32 ∷ 34 ∷ t)) (append_assoc n (34 ∷ []) (32 ∷ 34 ∷ (k ++ 34 ∷ []))) ∙ classed-read c l n k [] [] h.0 h.1 nothing-left
  key-alone (Numbered k) h = ap (λ t. link_entry_on (c ∷ 32 ∷ 35 ∷ t)) (sym (append-nil (decimal k))) ∙ number-alone k [] h no-end

  pub key-words : (k : Key) (e z : List ℕ) (ws : List (List ℕ)) → IsKey k → AreWords e ws → IsEnd z → link_entry_on (c ∷ 32 ∷ (key_words k ++ (32 ∷ (e ++ z)))) ≡ entry_by (c ∷ []) k ws
  key-words (Named n) e z ws h w end =
      ap (λ t. link_entry_on (c ∷ 32 ∷ 34 ∷ t)) (append_assoc n (34 ∷ []) (32 ∷ (e ++ z)))
      ∙ named-read c l n (32 ∷ (e ++ z)) e h (words-left e z w.tight w.quoteless end) ∙ ap (entry_by (c ∷ []) (Named n)) (in-all e ws w)
  key-words (OfClass n k) e z ws h w end =
      let rest : List ℕ = 32 ∷ (e ++ z) in
      ap (λ t. link_entry_on (c ∷ 32 ∷ 34 ∷ t)) (class-shape n k rest)
      ∙ classed-read c l n k rest e h.0 h.1 (words-left e z w.tight w.quoteless end) ∙ ap (entry_by (c ∷ []) (OfClass n k)) (in-all e ws w)
    where
      class-shape : (n k rest : List ℕ) → ((n ++ 34 ∷ []) ++ (32 ∷ (34 ∷ (k ++ 34 ∷ [])))) ++ rest ≡ n ++ 34 ∷ 32 ∷ 34 ∷ (k ++ 34 ∷ rest)
      class-shape n k rest =
          append_assoc (n ++ 34 ∷ []) (32 ∷ (34 ∷ (k ++ 34 ∷ []))) rest ∙ append_assoc n (34 ∷ []) (32 ∷ (34 ∷ ((k ++ 34 ∷ []) ++ rest)))
          ∙ ap (λ t. n ++ 34 ∷ 32 ∷ 34 ∷ t) (append_assoc k (34 ∷ []) rest)
  key-words (Numbered k) e z ws h w end = number-words k e z ws h w end

-- ---- a comment

cut-all : (xs : List ℕ) → said (59 ∷ xs) ≡ []
cut-all [] = refl
cut-all (x ∷ xs) = refl

pub comment-read : (cs : List ℕ) → link_entry_on (59 ∷ cs) ≡ Some Blank
comment-read cs =
    let p = first-part (split cs) _ (length-slice_split (λ x. eqb x 34) cs) in
    ap entry_of_parts (ap (onto_first 59) p.2) ∙ unnamed (59 ∷ p.0) p.1 (inr refl) ∙ ap unnamed_entry (cut-all p.0)
