-- Digits of numbers: which bytes they are, and how many.
use Rattle.std.proofs.Common.{◌≡◌, ℕ, zero, suc, ◌+◌, ◌/◌, ◌%◌, ◌^◌, ◌<◌, ◌≤◌, Bool, true, false, cond, eqb, not, ◌&&◌, nat_le, nat_lt, ◌==◌, List, [], ◌∷◌, length, refl, sym, pow-suc, arith}
use Rattle.std.specs.Fmt.{digits, digits_onto, digit_glyph}
use Rattle.std.specs.List.{list_all}
use Rattle.std.proofs.lemmas.Bool.{le-leb, ltb-true, ltb-false, leb-true, eqb-false, ne_eqb, and_from, and_parts, not_from_false, cond_both}
use Rattle.std.proofs.lemmas.Fmt.{digits_is_IsNumeral}
use Rattle.omf_placement.specs.Entries.{IsHexadecimal}
use Rattle.omf_placement.specs.Quoted.{number}

-- A byte of a field: no space, no control byte, no semicolon.
abbrev pub is_mark : ℕ → Bool
is_mark c = nat_le 33 c && not (c == 59)

pub mark : (c : ℕ) → 33 ≤ c → (c ≡ 59 → ⊥) → is_mark c ≡ true
mark c low other = and_from (nat_le 33 c) (not (c == 59)) (le-leb 33 c low) (not_from_false (c == 59) (ne_eqb c 59 other))

pub mark-low : (c : ℕ) → is_mark c ≡ true → 33 ≤ c
mark-low c h = leb-true 33 c (and_parts (nat_le 33 c) (not (c == 59)) h).0

-- A digit is one.
glyph-mark : (upper : Bool) (d : ℕ) → d < 16 → is_mark (digit_glyph upper d) ≡ true
glyph-mark upper d small = cond_both (nat_lt d 10) (48 + d) (cond upper (55 + d) (87 + d)) (λ c. is_mark c ≡ true)
    (λ e. let low = ltb-true d 10 e in mark (48 + d) (omega arith) (λ s. absurd (omega arith)))
    (λ e. let high = ltb-false d 10 e in cond_both upper (55 + d) (87 + d) (λ c. is_mark c ≡ true)
    (λ u. mark (55 + d) (omega arith) (λ s. absurd (omega arith)))
    (λ u. mark (87 + d) (omega arith) (λ s. absurd (omega arith))))

module _ (base : ℕ) (upper : Bool) (small : (n : ℕ) → n % base < 16) where
  marks-onto : (fuel n : ℕ) (acc : List ℕ) → list_all is_mark acc ≡ true → list_all is_mark (digits_onto fuel base upper n acc) ≡ true
  marks-onto zero n acc h = h
  marks-onto (suc fuel) n acc h =
      let g = digit_glyph upper (n % base) in
      let more : list_all is_mark (g ∷ acc) ≡ true = and_from (is_mark g) (list_all is_mark acc) (glyph-mark upper (n % base) (small n)) h in
      cond_both (eqb (n / base) 0) (g ∷ acc) (digits_onto fuel base upper (n / base) (g ∷ acc)) (λ cs. list_all is_mark cs ≡ true)
      (λ e. more) (λ e. marks-onto fuel (n / base) (g ∷ acc) more)

  pub marks-digits : (n : ℕ) → list_all is_mark (digits base upper n) ≡ true
  unfolding digits
  marks-digits n = marks-onto 64 n [] refl

-- A number below 16 to the power of n has at most n digits.
few : (fuel k n : ℕ) (acc : List ℕ) → n < 16 ^ suc k → length (digits_onto fuel 16 true n acc) ≤ suc k + length acc
few zero k n acc h = omega arith
few (suc fuel) k n acc h =
    let g = digit_glyph true (n % 16) in
    cond_both (eqb (n / 16) 0) (g ∷ acc) (digits_onto fuel 16 true (n / 16) (g ∷ acc)) (λ cs. length cs ≤ suc k + length acc)
    (λ e. omega arith) (λ e. rest k h (eqb-false (n / 16) 0 e) (λ j l. few fuel j (n / 16) (g ∷ acc) l))
  where
    rest : (j : ℕ) → n < 16 ^ suc j → (n / 16 ≡ 0 → ⊥) → ((i : ℕ) → n / 16 < 16 ^ suc i → length (digits_onto fuel 16 true (n / 16) (digit_glyph true (n % 16) ∷ acc)) ≤ suc i + suc (length acc))
        → length (digits_onto fuel 16 true (n / 16) (digit_glyph true (n % 16) ∷ acc)) ≤ suc j + length acc
    rest zero l some again = absurd (some (omega arith))
    rest (suc j) l some again =
        let low : n / 16 < 16 ^ suc j = omega (arith, pow-suc 16 (suc j)) in
        omega (arith, again j low)

few-digits : (k n : ℕ) → n < 16 ^ suc k → length (number n) ≤ suc k
unfolding digits
few-digits k n h = omega (arith, few 64 k n [] h)

-- So a number is a hexadecimal number of at most eight or four digits.
hexadecimal : (k n : ℕ) → n < 16 ^ suc k → n < 16 ^ 64 → IsHexadecimal (suc k) (number n) n
hexadecimal k n h l =
    let is = digits_is_IsNumeral 16 true (omega arith) (omega arith) n l in
    record { numeral = is.0; short = few-digits k n h; value = sym is.1 }

pub eight-digits : (n : ℕ) → n < 2 ^ 32 → IsHexadecimal 8 (number n) n
eight-digits n h = hexadecimal 7 n (omega arith) (omega arith)

pub four-digits : (n : ℕ) → n < 2 ^ 16 → IsHexadecimal 4 (number n) n
four-digits n h = hexadecimal 3 n (omega arith) (omega arith)

pub marks-number : (n : ℕ) → list_all is_mark (number n) ≡ true
marks-number n = marks-digits 16 true (λ k. omega arith) n

pub marks-decimal : (n : ℕ) → list_all is_mark (digits 10 false n) ≡ true
marks-decimal n = marks-digits 10 false (λ k. omega arith) n
