-- Hexadecimal digits of numbers.
use Rattle.std.proofs.Common.{◌≡◌, ℕ, zero, suc, ◌+◌, ◌-◌, ◌/◌, ◌%◌, ◌^◌, ◌<◌, Bool, true, false, cond, eqb, List, [], ◌∷◌, ◌++◌, length, refl, sym, ap, ◌∙◌, arith, inl, inr, eq-zero-or-pos, eq-eqb, ne_eqb}
use Rattle.std.specs.Fmt.{digits, digits_onto, digit_glyph}
use Rattle.std.specs.Prelude.{replicate}
use Rattle.omf_placement.specs.Quoted.{hex}

-- ---- a number of few enough digits, with zeros before them

abbrev last_glyph : ℕ → ℕ
last_glyph n = digit_glyph true (n % 16)

abbrev onto : ℕ → ℕ → List ℕ → List ℕ
onto k n acc = digits_onto k 16 true n acc

onto_suc : (k n : ℕ) (acc : List ℕ) (t : Bool) → eqb (n / 16) 0 ≡ t → onto (suc k) n acc ≡ cond t (last_glyph n ∷ acc) (onto k (n / 16) (last_glyph n ∷ acc))
onto_suc k n acc t e = ap (λ (b : Bool). cond b (last_glyph n ∷ acc) (onto k (n / 16) (last_glyph n ∷ acc))) e

-- the last k digits, and others after them
abbrev last_digits : ℕ → ℕ → List ℕ → List ℕ
last_digits zero n acc = acc
last_digits (suc k) n acc = last_digits k (n / 16) (last_glyph n ∷ acc)

zeros_before : (k : ℕ) (acc : List ℕ) → replicate k 48 ++ (48 ∷ acc) ≡ 48 ∷ (replicate k 48 ++ acc)
zeros_before zero acc = refl
zeros_before (suc k) acc = ap (λ (t : List ℕ). 48 ∷ t) (zeros_before k acc)

digits_of_zero : (k : ℕ) (acc : List ℕ) → last_digits k 0 acc ≡ replicate k 48 ++ acc
digits_of_zero zero acc = refl
digits_of_zero (suc k) acc = digits_of_zero k (48 ∷ acc) ∙ zeros_before k acc

padded : (k f n size : ℕ) (acc : List ℕ) → n < 16 ^ suc k → k < f → size ≡ suc k + length acc → replicate (size - length (onto f n acc)) 48 ++ onto f n acc ≡ last_digits (suc k) n acc
padded k zero n size acc small room all = absurd (omega arith)
padded zero (suc f) n size acc small room all =
    let none : n / 16 ≡ 0 = omega arith in
    let is = onto_suc f n acc true (eq-eqb (n / 16) 0 none) in
    let zeros : size - length (last_glyph n ∷ acc) ≡ 0 = omega arith in
    rw (is, zeros) refl
padded (suc k) (suc f) n size acc small room all =
    elim (eq-zero-or-pos (n / 16)) [
      | inl none ↦
          let is = onto_suc f n acc true (eq-eqb (n / 16) 0 none) in
          let zeros : size - length (last_glyph n ∷ acc) ≡ suc k = omega arith in
          rw (is, zeros) (sym (ap (λ (m : ℕ). last_digits (suc k) m (last_glyph n ∷ acc)) none ∙ digits_of_zero (suc k) (last_glyph n ∷ acc)))
      | inr some ↦
          let is = onto_suc f n acc false (ne_eqb (n / 16) 0 (λ e. omega arith)) in
          let left : size ≡ suc k + length (last_glyph n ∷ acc) = omega arith in
          rw is (padded k f (n / 16) size (last_glyph n ∷ acc) (omega arith) (omega arith) left)
    ]

hex_digits : (k n : ℕ) → n < 16 ^ suc k → k < 64 → hex (suc k) n ≡ last_digits (suc k) n []
unfolding digits
hex_digits k n small room = padded k 64 n (suc k) [] small room (omega arith)

pub hex_two : (n : ℕ) → n < 256 → digit_glyph true (n / 16) ∷ digit_glyph true (n % 16) ∷ [] ≡ hex 2 n
hex_two n small =
    let first : n / 16 ≡ n / 16 % 16 = omega arith in
    ap (λ (d : ℕ). digit_glyph true d ∷ last_glyph n ∷ []) first ∙ sym (hex_digits 1 n (omega arith) (omega arith))

pub hex_four : (n : ℕ) → n < 65536 → digit_glyph true (n / 4096) ∷ digit_glyph true (n / 256 % 16) ∷ digit_glyph true (n / 16 % 16) ∷ digit_glyph true (n % 16) ∷ [] ≡ hex 4 n
hex_four n small =
    let a : n / 4096 ≡ n / 16 / 16 / 16 % 16 = omega arith in
    let b : n / 256 % 16 ≡ n / 16 / 16 % 16 = omega arith in
    rw (a, b) (sym (hex_digits 3 n (omega arith) (omega arith)))

pub hex_eight : (n : ℕ) → n < 4294967296
    → digit_glyph true (n / 268435456) ∷ digit_glyph true (n / 16777216 % 16) ∷ digit_glyph true (n / 1048576 % 16) ∷ digit_glyph true (n / 65536 % 16)
    ∷ digit_glyph true (n / 4096 % 16) ∷ digit_glyph true (n / 256 % 16) ∷ digit_glyph true (n / 16 % 16) ∷ digit_glyph true (n % 16) ∷ [] ≡ hex 8 n
hex_eight n small =
    let a : n / 268435456 ≡ n / 16 / 16 / 16 / 16 / 16 / 16 / 16 % 16 = omega arith in
    let b : n / 16777216 % 16 ≡ n / 16 / 16 / 16 / 16 / 16 / 16 % 16 = omega arith in
    let c : n / 1048576 % 16 ≡ n / 16 / 16 / 16 / 16 / 16 % 16 = omega arith in
    let d : n / 65536 % 16 ≡ n / 16 / 16 / 16 / 16 % 16 = omega arith in
    let e : n / 4096 % 16 ≡ n / 16 / 16 / 16 % 16 = omega arith in
    let f : n / 256 % 16 ≡ n / 16 / 16 % 16 = omega arith in
    rw (a, b, c, d, e, f) (sym (hex_digits 7 n (omega arith) (omega arith)))
