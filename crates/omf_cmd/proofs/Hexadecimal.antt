-- The text of bytes as it is written over a slice, and hexadecimal numbers by the digits of their bytes.
use Rattle.std.proofs.Common.{◌≡◌, ℕ, zero, suc, ◌+◌, ◌-◌, ◌*◌, ◌/◌, ◌%◌, ◌<◌, ◌≤◌, true, List, [], ◌∷◌, ◌++◌, length, take, drop, get_or, refl, sym, ap, ap₂, ◌∙◌, arith, append_assoc, length-append}
use Rattle.std.proofs.lemmas.List.{append-nil, drop_all, drop_more, length-drop, length-take, take_at, take-append-le, take-take}
use Rattle.std.proofs.lemmas.List.Concat.{flat_map-append}
use Rattle.std.specs.Fmt.{digit_glyph}
use Rattle.std.specs.Prelude.{flat_map, slice_range}
use Rattle.omf_placement.specs.Quoted.{hex}
use Rattle.omf_cmd.specs.Inner.Names.{byte_text}
use Rattle.omf_placement.proofs.HexadecimalLaws.{hex_two, hex_four, hex_eight}

-- ---- by the digits of bytes

-- the digits of a byte and of the others after it, from its own list
byte_digits : (n : ℕ) → n < 256 → (ds : List ℕ) → ds ≡ hex 2 n → (get_or ds 0 0 ≡ digit_glyph true (n / 16)) × (get_or ds 1 0 ≡ digit_glyph true (n % 16))
byte_digits n small ds is =
    let e : ds ≡ digit_glyph true (n / 16) ∷ digit_glyph true (n % 16) ∷ [] = is ∙ sym (hex_two n small) in
    (ap (λ (t : List ℕ). get_or t 0 0) e, ap (λ (t : List ℕ). get_or t 1 0) e)

pub four_by_bytes : (n : ℕ) → n < 65536 → (a b : List ℕ) → a ≡ hex 2 (n / 256) → b ≡ hex 2 (n % 256)
    → get_or a 0 0 ∷ get_or a 1 0 ∷ get_or b 0 0 ∷ get_or b 1 0 ∷ [] ≡ hex 4 n
four_by_bytes n small a b is_a is_b =
    let da = byte_digits (n / 256) (omega arith) a is_a in
    let db = byte_digits (n % 256) (omega arith) b is_b in
    let first : n / 256 / 16 ≡ n / 4096 = omega arith in
    let third : n % 256 / 16 ≡ n / 16 % 16 = omega arith in
    let last : n % 256 % 16 ≡ n % 16 = omega arith in
    rw (da.0, da.1, db.0, db.1, first, third, last) (hex_four n small)

pub eight_by_bytes : (n : ℕ) → n < 4294967296 → (a b c d : List ℕ) → a ≡ hex 2 (n / 16777216) → b ≡ hex 2 (n / 65536 % 256) → c ≡ hex 2 (n / 256 % 256) → d ≡ hex 2 (n % 256)
    → get_or a 0 0 ∷ get_or a 1 0 ∷ get_or b 0 0 ∷ get_or b 1 0 ∷ get_or c 0 0 ∷ get_or c 1 0 ∷ get_or d 0 0 ∷ get_or d 1 0 ∷ [] ≡ hex 8 n
eight_by_bytes n small a b c d is_a is_b is_c is_d =
    let da = byte_digits (n / 16777216) (omega arith) a is_a in
    let db = byte_digits (n / 65536 % 256) (omega arith) b is_b in
    let dc = byte_digits (n / 256 % 256) (omega arith) c is_c in
    let dd = byte_digits (n % 256) (omega arith) d is_d in
    let a0 : n / 16777216 / 16 ≡ n / 268435456 = omega arith in
    let b0 : n / 65536 % 256 / 16 ≡ n / 1048576 % 16 = omega arith in
    let b1 : n / 65536 % 256 % 16 ≡ n / 65536 % 16 = omega arith in
    let c0 : n / 256 % 256 / 16 ≡ n / 4096 % 16 = omega arith in
    let c1 : n / 256 % 256 % 16 ≡ n / 256 % 16 = omega arith in
    let d0 : n % 256 / 16 ≡ n / 16 % 16 = omega arith in
    let d1 : n % 256 % 16 ≡ n % 16 = omega arith in
    rw (da.0, da.1, db.0, db.1, dc.0, dc.1, dd.0, dd.1, a0, b0, b1, c0, c1, d0, d1) (hex_eight n small)

-- ---- the table of the texts of bytes

-- the texts of k numbers from n on: a space, two digits, and a space
abbrev pub shown_from : ℕ → ℕ → List ℕ
shown_from zero n = []
shown_from (suc k) n = 32 ∷ digit_glyph true (n / 16) ∷ digit_glyph true (n % 16) ∷ 32 ∷ shown_from k (n + 1)

shown_at : (k n i : ℕ) → i < k → take 4 (drop (4 * i) (shown_from k n)) ≡ 32 ∷ digit_glyph true ((n + i) / 16) ∷ digit_glyph true ((n + i) % 16) ∷ 32 ∷ []
shown_at zero n i h = absurd (omega arith)
shown_at (suc k) n zero h = let e : n + 0 ≡ n = omega arith in ap (λ m. 32 ∷ digit_glyph true (m / 16) ∷ digit_glyph true (m % 16) ∷ 32 ∷ []) (sym e)
shown_at (suc k) n (suc i) h =
    let a : 4 * suc i ≡ suc (suc (suc (suc (4 * i)))) = omega arith in
    let e : n + suc i ≡ n + 1 + i = omega arith in
    rw (a, e) (shown_at k (n + 1) i (omega arith))

pub text_and_space : (n i at : ℕ) → n < 256 → i ≡ n → at ≡ 4 * i → slice_range (shown_from 256 0) at (at + 4) ≡ 32 ∷ hex 2 n ++ 32 ∷ []
text_and_space n i at small same is =
    let size : at + 4 - at ≡ 4 = omega arith in
    let e : 0 + i ≡ n = omega (arith, same) in
    ap (λ (k : ℕ). take k (drop at (shown_from 256 0))) size ∙ ap (λ (k : ℕ). take 4 (drop k (shown_from 256 0))) is
    ∙ shown_at 256 0 i (omega (arith, same)) ∙ ap (λ m. 32 ∷ (digit_glyph true (m / 16) ∷ digit_glyph true (m % 16) ∷ []) ++ 32 ∷ []) e
    ∙ ap (λ (ds : List ℕ). 32 ∷ ds ++ 32 ∷ []) (hex_two n small)

pub text_alone : (n i at : ℕ) → n < 256 → i ≡ n → at ≡ 4 * i → slice_range (shown_from 256 0) at (at + 3) ≡ 32 ∷ hex 2 n
text_alone n i at small same is =
    let size : at + 3 - at ≡ 3 = omega arith in
    let e : 0 + i ≡ n = omega (arith, same) in
    ap (λ (k : ℕ). take k (drop at (shown_from 256 0))) size ∙ sym (take-take 3 4 (drop at (shown_from 256 0)) (omega arith))
    ∙ ap (λ (k : ℕ). take 3 (take 4 (drop k (shown_from 256 0)))) is
    ∙ ap (take 3) (shown_at 256 0 i (omega (arith, same))) ∙ ap (λ m. 32 ∷ digit_glyph true (m / 16) ∷ digit_glyph true (m % 16) ∷ []) e
    ∙ ap (λ (ds : List ℕ). 32 ∷ ds) (hex_two n small)

get_front : (n i : ℕ) (xs : List ℕ) → i < n → get_or (take n xs) i 0 ≡ get_or xs i 0
get_front zero i xs h = absurd (omega arith)
get_front (suc n) i [] h = refl
get_front (suc n) zero (x ∷ xs) h = refl
get_front (suc n) (suc i) (x ∷ xs) h = get_front n i xs (omega arith)

get_from : (m i j : ℕ) (xs : List ℕ) → m + i ≡ j → get_or (drop m xs) i 0 ≡ get_or xs j 0
get_from zero i j xs e = let same : i ≡ j = omega (arith, e) in ap (λ (k : ℕ). get_or xs k 0) same
get_from (suc m) i zero xs e = absurd (omega (arith, e))
get_from (suc m) i (suc j) [] e = refl
get_from (suc m) i (suc j) (x ∷ xs) e = get_from m i j xs (omega (arith, e))

pub two_of_shown : (n i : ℕ) → n < 256 → i ≡ n → get_or (shown_from 256 0) (4 * i + 1) 0 ∷ get_or (shown_from 256 0) (4 * i + 2) 0 ∷ [] ≡ hex 2 n
two_of_shown n i small same =
    let e : 0 + i ≡ n = omega (arith, same) in
    let shown : List ℕ = shown_from 256 0 in
    let entry = shown_at 256 0 i (omega (arith, same)) in
    let high : get_or shown (4 * i + 1) 0 ≡ digit_glyph true (n / 16) =
    sym (get_front 4 1 (drop (4 * i) shown) (omega arith) ∙ get_from (4 * i) 1 (4 * i + 1) shown refl) ∙ ap (λ (t : List ℕ). get_or t 1 0) entry ∙ ap (λ m. digit_glyph true (m / 16)) e in
    let low : get_or shown (4 * i + 2) 0 ≡ digit_glyph true (n % 16) =
    sym (get_front 4 2 (drop (4 * i) shown) (omega arith) ∙ get_from (4 * i) 2 (4 * i + 2) shown refl) ∙ ap (λ (t : List ℕ). get_or t 2 0) entry ∙ ap (λ m. digit_glyph true (m % 16)) e in
    ap₂ (λ (x y : ℕ). x ∷ y ∷ []) high low ∙ hex_two n small

-- ---- bytes as they are written over a text

-- one more is
pub one_more : (t bytes new rest : List ℕ) (i : ℕ) → i < length bytes → length t ≡ 3 * length bytes + 1 → length new ≡ 4 → new ≡ 32 ∷ hex 2 (get_or bytes i 0) ++ 32 ∷ []
    → take (3 * i) t ++ flat_map byte_text (drop i bytes) ≡ flat_map byte_text bytes
    → take (3 * (i + 1)) (take (3 * i) t ++ (new ++ rest)) ++ flat_map byte_text (drop (i + 1) bytes) ≡ flat_map byte_text bytes
one_more t bytes new rest i lt size four is so =
    let front : List ℕ = take (3 * i) t in
    let shown : List ℕ = byte_text (get_or bytes i 0) in
    let others : List ℕ = flat_map byte_text (drop (i + 1) bytes) in
    let before : length front ≡ 3 * i = length-take (3 * i) t ∙ omega (arith, lt, size) in
    let three : length shown + 1 ≡ 4 = sym (length-append shown (32 ∷ [])) ∙ sym (ap length is) ∙ four in
    let long : length (front ++ shown) ≡ 3 * (i + 1) = length-append front shown ∙ omega (arith, before, three) in
    let split : front ++ (new ++ rest) ≡ (front ++ shown) ++ (32 ∷ rest) =
    ap (λ (z : List ℕ). front ++ (z ++ rest)) is ∙ ap (λ (z : List ℕ). front ++ z) (append_assoc shown (32 ∷ []) rest) ∙ sym (append_assoc front shown (32 ∷ rest)) in
    ap (λ (z : List ℕ). take (3 * (i + 1)) z ++ others) split
    ∙ ap (λ (z : List ℕ). z ++ others) (take_at (front ++ shown) (32 ∷ rest) (3 * (i + 1)) (omega (arith, long)))
    ∙ append_assoc front shown others
    ∙ ap (λ (z : List ℕ). front ++ flat_map byte_text z) (sym (drop_more bytes i 0 lt))
    ∙ so

-- the last is written after all others
pub last_written : (text new one bytes others : List ℕ) (last end left : ℕ) → bytes ≡ others ++ last ∷ [] → length new ≡ end + 1 → take end new ≡ flat_map byte_text others → one ≡ byte_text last
    → left ≡ length (new ++ text) - end → take end (new ++ text) ++ (one ++ drop left (drop end (new ++ text))) ≡ flat_map byte_text bytes
last_written text new one bytes others last end left is size written shown all =
    let none : drop left (drop end (new ++ text)) ≡ [] = drop_all left (drop end (new ++ text)) (omega (arith, length-drop end (new ++ text), all)) in
    ap (λ (z : List ℕ). take end (new ++ text) ++ (one ++ z)) none
    ∙ ap (λ (z : List ℕ). z ++ (one ++ [])) (take-append-le end new text (omega (arith, size)) ∙ written)
    ∙ ap (λ (z : List ℕ). flat_map byte_text others ++ (z ++ [])) shown
    ∙ sym (flat_map-append byte_text others (last ∷ []))
    ∙ ap (flat_map byte_text) (sym is)
