-- Letters at the end of a word, and numbers that are not marked.
use Rattle.std.proofs.Common.{◌≡◌, ℕ, ◌<◌, List, [], ◌∷◌, ◌++◌, Bool, true, false, eqb, length, refl, sym, ap, ap₂, subst, ◌∙◌, arith}
use Rattle.std.specs.Prelude.{Option, Some, None, option_map, unwrap_or, ◌==◌, ◌&&◌, ◌||◌}
use Rattle.std.specs.Char.{digit_value}
use Rattle.std.specs.Option.{option_or}
use Rattle.std.specs.Str.Parse.{AllDigits}
use Rattle.std.proofs.lemmas.Bool.{ne_eqb}
use Rattle.omf_placement.specs.Entries.{IsHexadecimal}
use Rattle.omf_text.specs.Numerals.{after_0x, before_letter, digits_of, without_zero}

-- one of the two letters at the end
at_end : (upper lower : ℕ) (front : List ℕ) (last : ℕ) → (last == upper || last == lower) ≡ true → before_letter upper lower (front ++ last ∷ []) ≡ Some front
at_end upper lower [] last is = rw is refl
at_end upper lower (c ∷ []) last is = rw is refl
at_end upper lower (c ∷ d ∷ front) last is = ap (option_map (λ t. c ∷ t)) (at_end upper lower (d ∷ front) last is)

pub letter_goes : (upper lower : ℕ) (word front : List ℕ) (last : ℕ) → word ≡ front ++ last ∷ [] → (last == upper || last == lower) ≡ true → Some front ≡ before_letter upper lower word
letter_goes upper lower word front last e is = rw e (sym (at_end upper lower front last is))

-- any other byte at the end
not_at_end : (upper lower : ℕ) (front : List ℕ) (last : ℕ) → (last == upper || last == lower) ≡ false → before_letter upper lower (front ++ last ∷ []) ≡ None
not_at_end upper lower [] last is = rw is refl
not_at_end upper lower (c ∷ []) last is = rw is refl
not_at_end upper lower (c ∷ d ∷ front) last is = ap (option_map (λ t. c ∷ t)) (not_at_end upper lower (d ∷ front) last is)

pub other_ends : (upper lower : ℕ) (word front : List ℕ) (last : ℕ) → word ≡ front ++ last ∷ [] → (last == upper || last == lower) ≡ false → None ≡ before_letter upper lower word
other_ends upper lower word front last e is = rw e (sym (not_at_end upper lower front last is))

-- nothing is before the end of no word
pub nothing_before : (upper lower : ℕ) (word : List ℕ) → length word ≡ 0 → None ≡ before_letter upper lower word
nothing_before upper lower [] e = refl
nothing_before upper lower (c ∷ word) e = absurd (omega (arith, e))

-- A byte that is no hexadecimal digit is none of those of a number.
other : (c letter : ℕ) → digit_value c < 16 → (digit_value letter < 16 → ⊥) → (c == letter) ≡ false
other c letter digit none = ne_eqb c letter (λ e. none (subst (λ d. digit_value d < 16) e digit))

neither : (c upper lower : ℕ) → digit_value c < 16 → (digit_value upper < 16 → ⊥) → (digit_value lower < 16 → ⊥) → (c == upper || c == lower) ≡ false
neither c upper lower digit one two = ap₂ (λ a b. a || b) (other c upper digit one) (other c lower digit two)

ends-unmarked : (cs : List ℕ) → AllDigits 16 cs → before_letter 72 104 cs ≡ None
ends-unmarked [] h = refl
ends-unmarked (c ∷ []) h = rw (neither c 72 104 h.0 (λ l. absurd (omega (arith, l))) (λ l. absurd (omega (arith, l)))) refl
ends-unmarked (c ∷ d ∷ cs) h = ap (option_map (λ t. c ∷ t)) (ends-unmarked (d ∷ cs) h.1)

and-no : (a : Bool) → (a && false) ≡ false
and-no true = refl
and-no false = refl

begins-unmarked : (cs : List ℕ) → AllDigits 16 cs → after_0x cs ≡ None
begins-unmarked [] h = refl
begins-unmarked (c ∷ []) h = refl
begins-unmarked (c ∷ x ∷ cs) h =
    let second = neither x 120 88 h.1.0 (λ l. absurd (omega (arith, l))) (λ l. absurd (omega (arith, l))) in
    rw (ap (λ b. c == 48 && b) second ∙ and-no (c == 48)) refl

-- A number as the programs print it is not marked.
pub plain-digits : (most : ℕ) (cs : List ℕ) (n : ℕ) → IsHexadecimal most cs n → digits_of cs ≡ cs
plain-digits most cs n h = ap₂ (λ front end. unwrap_or (option_or front (option_map without_zero end)) cs) (begins-unmarked cs h.numeral.1) (ends-unmarked cs h.numeral.1)
