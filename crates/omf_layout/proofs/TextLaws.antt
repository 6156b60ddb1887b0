-- Lines one after another in a text, whatever each of them is parsed to.
use Rattle.std.proofs.Common.{◌≡◌, ℕ, ◌+◌, false, List, [], ◌∷◌, ◌++◌, length, refl, sym, ap, ap₂, ◌∙◌, append_assoc, length-append, arith, eqb}
use Rattle.std.specs.Prelude.{flat_map, map, All, Option, Some, ◌==◌}
use Rattle.std.specs.List.{enumerate_from, slice_split, list_all}
use Rattle.std.proofs.lemmas.Bool.{ne_eqb, leb-true, and_parts}
use Rattle.std.proofs.lemmas.List.Elements.{All-nil, All-cons, All-head, All-tail}
use Rattle.std.proofs.lemmas.List.Splits.{slice_split_at}
use Rattle.omf_text.proofs.PrintedLaws.{Passes, is_printed}
use Rattle.omf_placement.proofs.ListLaws.{told_from, told-append}

no-feed : (cs : List ℕ) → Passes is_printed cs → All (λ c. eqb c 10 ≡ false) cs
no-feed [] h = All-nil (λ c. eqb c 10 ≡ false)
no-feed (c ∷ cs) h =
    let k = and_parts (is_printed c) (list_all is_printed cs) h in
    let low = leb-true 32 c k.0 in
    All-cons (λ d. eqb d 10 ≡ false) c cs (ne_eqb c 10 (λ e. absurd (omega arith))) (no-feed cs k.1)

abbrev pub parts_of : List ℕ → List (List ℕ)
parts_of text = slice_split (λ c. c == 10) text

module _ {E : Type 0} (read : List ℕ → Option E) where
  -- A line: its bytes before the line feed are parsed to this.
  pub record IsLineOf (text : List ℕ) (e : E) : Type 0 where
    pub body : List ℕ
    pub is : text ≡ body ++ 10 ∷ []
    pub unbroken : Passes is_printed body
    pub says : read body ≡ Some e

  -- Lines from a number on, with what each is parsed to; and values, each on a line of its own.
  abbrev pub read_from : ℕ → List (List ℕ) → List (ℕ × Option E)
  read_from n lines = map (λ l. (l.0, read l.1)) (enumerate_from n lines)

module _ {E : Type 0} (read : List ℕ → Option E) where
  -- A text is whole lines that are parsed to these, whatever follows it.
  abbrev pub SpellsLines : List ℕ → List E → Type 0
  SpellsLines text es = (n : ℕ) (rest : List ℕ) → read_from read n (parts_of (text ++ rest)) ≡ told_from n es ++ read_from read (n + length es) (parts_of rest)

  pub no-lines : SpellsLines [] []
  no-lines n rest = let none : n ≡ n + 0 = omega arith in ap (λ k. read_from read k (parts_of rest)) none

  pub one-line : (text : List ℕ) (e : E) → IsLineOf read text e → SpellsLines text (e ∷ [])
  one-line text e h n rest =
      ap (λ t. read_from read n (parts_of (t ++ rest))) h.is
      ∙ ap (λ t. read_from read n (parts_of t)) (append_assoc h.body (10 ∷ []) rest)
      ∙ ap (read_from read n) (slice_split_at (λ c. eqb c 10) h.body 10 rest (no-feed h.body h.unbroken) refl)
      ∙ ap (λ o. (n, o) ∷ read_from read (n + 1) (parts_of rest)) h.says

  pub more-lines : (a b : List ℕ) (es fs : List E) → SpellsLines a es → SpellsLines b fs → SpellsLines (a ++ b) (es ++ fs)
  more-lines a b es fs h k n rest =
      let end : n + length es + length fs ≡ n + length (es ++ fs) = omega (arith, length-append es fs) in
      ap (λ t. read_from read n (parts_of t)) (append_assoc a b rest)
      ∙ h n (b ++ rest)
      ∙ ap (λ ls. told_from n es ++ ls) (k (n + length es) rest)
      ∙ sym (append_assoc (told_from n es) (told_from (n + length es) fs) (read_from read (n + length es + length fs) (parts_of rest)))
      ∙ ap₂ (λ ls j. ls ++ read_from read j (parts_of rest)) (sym (told-append n es fs)) end

  pub each-text : {A : Type 0} (f : A → List ℕ) (entries : A → List E) (xs : List A) → All (λ x. SpellsLines (f x) (entries x)) xs → SpellsLines (flat_map f xs) (flat_map entries xs)
  each-text f entries [] h = no-lines
  each-text f entries (x ∷ xs) h =
      more-lines (f x) (flat_map f xs) (entries x) (flat_map entries xs) (All-head (λ y. SpellsLines (f y) (entries y)) x xs h)
      (each-text f entries xs (All-tail (λ y. SpellsLines (f y) (entries y)) x xs h))

  pub each-line : {A : Type 0} (f : A → List ℕ) (entry : A → E) (xs : List A) → All (λ x. IsLineOf read (f x) (entry x)) xs → SpellsLines (flat_map f xs) (map entry xs)
  each-line f entry [] h = no-lines
  each-line f entry (x ∷ xs) h =
      more-lines (f x) (flat_map f xs) (entry x ∷ []) (map entry xs) (one-line (f x) (entry x) (All-head (λ y. IsLineOf read (f y) (entry y)) x xs h))
      (each-line f entry xs (All-tail (λ y. IsLineOf read (f y) (entry y)) x xs h))
