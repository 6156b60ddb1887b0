-- Lines, decoded: a text is read in one way only.
use Rattle.std.proofs.Common.{◌≡◌, ◌≢◌, ℕ, zero, suc, ◌+◌, ◌-◌, ◌*◌, ◌/◌, ◌%◌, ◌<◌, ◌≤◌, List, [], ◌∷◌, ◌++◌, length, take, Bool, true, cond, eqb, ltb, inl, inr, refl, ap, ap₂, sym, ◌∙◌, arith, append_assoc}
use Rattle.std.specs.Fmt.{digit_glyph}
use Rattle.std.proofs.lemmas.Bool.{ne_eqb, lt-ltb, le-ltb}
use Rattle.std.proofs.lemmas.Bool.Decides.{leb_tells}
use Rattle.std.proofs.lemmas.List.{append-nil, length-append}
use Rattle.omf_output.specs.Rom.Spelled.{spelled, line}
use Rattle.omf_output.specs.Rom.IntelHex.{checksum, record_line, end_line}
use Rattle.omf_output.specs.Rom.Runs.{placed}
use Rattle.omf_output.specs.declared.rom.srec.SAddress.{SAddress}
use Rattle.omf_output.specs.declared.rom.srec.SAddress.TheVariants.{Bits16, Bits24, Bits32}
use Rattle.omf_output.specs.Rom.Motorola.{complement, data_digit, end_digit, header_digit, limit as s_limit, record_bytes}
use Rattle.omf_output.specs.Rom.Reading.{MeansHex, MeansS}
use Rattle.omf_output.specs.Rom.Reading.MeansS.{s_bytes_at, s_ends, s_header}
use Rattle.omf_output.specs.Rom.Reading.MeansHex.{bytes_at, segment_base, linear_base, hex_ends}

-- ---- digits

value : ℕ → ℕ
value c = cond (ltb c 58) (c - 48) (c - 55)

value_of : (d : ℕ) → value (digit_glyph true d) ≡ d
unfolding value
value_of d = elim (leb_tells 10 d) [
  | inl high ↦
      ap (λ (b : Bool). value (cond b (48 + d) (55 + d))) (le-ltb d 10 high.1) ∙ ap (λ (b : Bool). cond b (55 + d - 48) (55 + d - 55)) (le-ltb (55 + d) 58 (omega (arith, high.1))) ∙ omega arith
  | inr low ↦
      ap (λ (b : Bool). value (cond b (48 + d) (55 + d))) (lt-ltb d 10 low.1) ∙ ap (λ (b : Bool). cond b (48 + d - 48) (48 + d - 55)) (lt-ltb (48 + d) 58 (omega (arith, low.1))) ∙ omega arith
]

glyph_high : (d : ℕ) → digit_glyph true d ≢ 10
glyph_high d e = elim (leb_tells 10 d) [
  | inl high ↦ let is : digit_glyph true d ≡ 55 + d = ap (λ (b : Bool). cond b (48 + d) (55 + d)) (le-ltb d 10 high.1) in absurd (omega (arith, is, e))
  | inr low ↦ let is : digit_glyph true d ≡ 48 + d = ap (λ (b : Bool). cond b (48 + d) (55 + d)) (lt-ltb d 10 low.1) in absurd (omega (arith, is, e))
]

unspelled : List ℕ → List ℕ
unspelled [] = []
unspelled (h ∷ []) = []
unspelled (h ∷ l ∷ text) = (16 * value h + value l) ∷ unspelled text

unspelled_of : (bs : List ℕ) → unspelled (spelled bs) ≡ bs
unfolding unspelled
unspelled_of [] = refl
unspelled_of (b ∷ bs) =
    let high = value_of (b / 16) in
    let low = value_of (b % 16) in
    let is : 16 * value (digit_glyph true (b / 16)) + value (digit_glyph true (b % 16)) ≡ b = omega (arith, high, low) in
    ap₂ (λ (x : ℕ) (xs : List ℕ). x ∷ xs) is (unspelled_of bs)

-- ---- lines

front : List ℕ → List ℕ
front [] = []
front (c ∷ text) = cond (eqb c 10) [] (c ∷ front text)

behind : List ℕ → List ℕ
behind [] = []
behind (c ∷ text) = cond (eqb c 10) text (behind text)

front_of : (bs text : List ℕ) → front (spelled bs ++ 10 ∷ text) ≡ spelled bs
unfolding front
front_of [] text = refl
front_of (b ∷ bs) text =
    let high = ne_eqb (digit_glyph true (b / 16)) 10 (glyph_high (b / 16)) in
    let low = ne_eqb (digit_glyph true (b % 16)) 10 (glyph_high (b % 16)) in
    let h : ℕ = digit_glyph true (b / 16) in
    let l : ℕ = digit_glyph true (b % 16) in
    ap₂ (λ (x y : Bool). cond x [] (h ∷ cond y [] (l ∷ front (spelled bs ++ 10 ∷ text)))) high low ∙ ap (λ (t : List ℕ). h ∷ l ∷ t) (front_of bs text)

behind_of : (bs text : List ℕ) → behind (spelled bs ++ 10 ∷ text) ≡ text
unfolding behind
behind_of [] text = refl
behind_of (b ∷ bs) text =
    let high = ne_eqb (digit_glyph true (b / 16)) 10 (glyph_high (b / 16)) in
    let low = ne_eqb (digit_glyph true (b % 16)) 10 (glyph_high (b % 16)) in
    ap₂ (λ (x y : Bool). cond x (digit_glyph true (b % 16) ∷ (spelled bs ++ 10 ∷ text)) (cond y (spelled bs ++ 10 ∷ text) (behind (spelled bs ++ 10 ∷ text)))) high low ∙ behind_of bs text

-- ---- records of Intel HEX

number : List ℕ → ℕ
number [] = 0
number (h ∷ []) = 0
number (h ∷ l ∷ rest) = 256 * h + l

-- what a record means, with what follows it from a base address on
meaning : List ℕ → ℕ → (ℕ → List (ℕ × ℕ)) → List (ℕ × ℕ)
meaning [] first others = []
meaning (a ∷ []) first others = []
meaning (a ∷ b ∷ []) first others = []
meaning (a ∷ b ∷ c ∷ []) first others = []
meaning (count ∷ high ∷ low ∷ kind ∷ rest) first others =
    cond (eqb kind 0) (placed (first + (256 * high + low)) (take count rest) ++ others first)
    (cond (eqb kind 2) (others (16 * number rest)) (cond (eqb kind 4) (others (65536 * number rest)) []))

-- a line without its mark
unmarked : List ℕ → List ℕ
unmarked [] = []
unmarked (mark ∷ text) = text

read : ℕ → ℕ → List ℕ → List (ℕ × ℕ)
read zero first text = []
read (suc n) first text = meaning (unspelled (front (unmarked text))) first (λ base. read n base (behind (unmarked text)))

taken_front : (xs : List ℕ) (y : ℕ) → take (length xs) (xs ++ y ∷ []) ≡ xs
taken_front [] y = refl
taken_front (x ∷ xs) y = ap (λ (t : List ℕ). x ∷ t) (taken_front xs y)

-- a line, read
line_read : (n first : ℕ) (bytes text : List ℕ) → read (suc n) first (record_line bytes ++ text) ≡ meaning (bytes ++ checksum bytes ∷ []) first (λ base. read n base text)
unfolding read unmarked
line_read n first bytes text =
    let all : List ℕ = bytes ++ checksum bytes ∷ [] in
    let whole : (58 ∷ spelled all ++ 10 ∷ []) ++ text ≡ 58 ∷ (spelled all ++ 10 ∷ text) = ap (λ (t : List ℕ). 58 ∷ t) (append_assoc (spelled all) (10 ∷ []) text) in
    ap (read (suc n) first) whole
    ∙ ap₂ (λ (t u : List ℕ). meaning (unspelled t) first (λ base. read n base u)) (front_of all text) (behind_of all text)
    ∙ ap (λ (t : List ℕ). meaning t first (λ base. read n base text)) (unspelled_of all)

shorter : (bytes text : List ℕ) (n : ℕ) → length (record_line bytes ++ text) < suc n → length text < n
shorter bytes text n h = let both = length-append (record_line bytes) text in omega (arith, both)

means_read : (first : ℕ) (text : List ℕ) (m : List (ℕ × ℕ)) → MeansHex first text m → (n : ℕ) → length text < n → read n first text ≡ m
unfolding meaning number
means_read first text m h zero small = absurd (omega arith)
means_read _ _ _ (bytes_at first offset bytes text m are few fits says) (suc n) small =
    let at : first + (256 * (offset / 256) + offset % 256) ≡ first + offset = omega arith in
    line_read n first (length bytes ∷ offset / 256 ∷ offset % 256 ∷ 0 ∷ bytes) text
    ∙ ap₂ (λ (x : ℕ) (bs : List ℕ). placed x bs ++ read n first text) at (taken_front bytes _)
    ∙ ap (λ (t : List (ℕ × ℕ)). placed (first + offset) bytes ++ t) (means_read first text m says n (shorter (length bytes ∷ offset / 256 ∷ offset % 256 ∷ 0 ∷ bytes) text n small))
means_read _ _ _ (segment_base first given text m fits says) (suc n) small =
    let at : 16 * (256 * (given / 256) + given % 256) ≡ 16 * given = omega arith in
    line_read n first (2 ∷ 0 ∷ 0 ∷ 2 ∷ given / 256 ∷ given % 256 ∷ []) text ∙ ap (λ (x : ℕ). read n x text) at ∙ means_read (16 * given) text m says n (shorter (2 ∷ 0 ∷ 0 ∷ 2 ∷ given / 256 ∷ given % 256 ∷ []) text n small)
means_read _ _ _ (linear_base first given text m fits says) (suc n) small =
    let at : 65536 * (256 * (given / 256) + given % 256) ≡ 65536 * given = omega arith in
    line_read n first (2 ∷ 0 ∷ 0 ∷ 4 ∷ given / 256 ∷ given % 256 ∷ []) text ∙ ap (λ (x : ℕ). read n x text) at ∙ means_read (65536 * given) text m says n (shorter (2 ∷ 0 ∷ 0 ∷ 4 ∷ given / 256 ∷ given % 256 ∷ []) text n small)
means_read _ _ _ (hex_ends first) (suc n) small = ap (read (suc n) first) (sym (append-nil end_line)) ∙ line_read n first (0 ∷ 0 ∷ 0 ∷ 1 ∷ []) []

-- a text in Intel HEX has one meaning
pub hex_unique : (first : ℕ) (text : List ℕ) (m k : List (ℕ × ℕ)) → MeansHex first text m → MeansHex first text k → m ≡ k
hex_unique first text m k one other = sym (means_read first text m one (suc (length text)) (omega arith)) ∙ means_read first text k other (suc (length text)) (omega arith)

-- ---- S-records

-- the data of a record, at its address
placed_by : SAddress → List ℕ → List (ℕ × ℕ)
placed_by Bits16 (count ∷ a ∷ b ∷ rest) = placed (256 * a + b) (take (count - 3) rest)
placed_by Bits24 (count ∷ a ∷ b ∷ c ∷ rest) = placed (65536 * a + 256 * b + c) (take (count - 4) rest)
placed_by Bits32 (count ∷ a ∷ b ∷ c ∷ d ∷ rest) = placed (16777216 * a + 65536 * b + 256 * c + d) (take (count - 5) rest)
placed_by width bytes = []

same_placed : (x address n : ℕ) (bytes : List ℕ) (sum : ℕ) → (0 < length bytes → x ≡ address) → n ≡ length bytes → placed x (take n (bytes ++ sum ∷ [])) ≡ placed address bytes
same_placed x address n [] sum at size = ap (λ (k : ℕ). placed x (take k (sum ∷ []))) size
same_placed x address n (b ∷ bytes) sum at size =
    ap₂ (λ (y k : ℕ). placed y (take k (b ∷ bytes ++ sum ∷ []))) (at (omega arith)) size ∙ ap (placed address) (taken_front (b ∷ bytes) sum)

record_placed : (width : SAddress) (address : ℕ) (bytes : List ℕ) (sum : ℕ) → address + length bytes ≤ s_limit width → placed_by width (record_bytes width address bytes ++ sum ∷ []) ≡ placed address bytes
unfolding placed_by
record_placed Bits16 address bytes sum fits = same_placed _ address _ bytes sum (λ some. omega arith) (omega arith)
record_placed Bits24 address bytes sum fits = same_placed _ address _ bytes sum (λ some. omega arith) (omega arith)
record_placed Bits32 address bytes sum fits = same_placed _ address _ bytes sum (λ some. omega arith) (omega arith)

-- what a record adds to what the later ones give: its bytes, or nothing, or no later record counts
s_step : SAddress → ℕ → List (ℕ × ℕ) → List (ℕ × ℕ) → List (ℕ × ℕ)
s_step width digit own later = cond (eqb digit (data_digit width)) (own ++ later) (cond (eqb digit header_digit) later [])

-- a text, line by line, up to a record that is neither a header nor data
s_read : SAddress → ℕ → List ℕ → List (ℕ × ℕ)
s_read width zero text = []
s_read width (suc n) [] = []
s_read width (suc n) (mark ∷ []) = []
s_read width (suc n) (mark ∷ digit ∷ text) = s_step width digit (placed_by width (unspelled (front text))) (s_read width n (behind text))

s_line_read : (width : SAddress) (n digit : ℕ) (bytes text : List ℕ)
    → s_read width (suc n) (line (83 ∷ digit ∷ []) bytes ++ text) ≡ s_step width digit (placed_by width bytes) (s_read width n text)
unfolding s_read
s_line_read width n digit bytes text =
    let whole : (83 ∷ digit ∷ spelled bytes ++ 10 ∷ []) ++ text ≡ 83 ∷ digit ∷ (spelled bytes ++ 10 ∷ text) = ap (λ (t : List ℕ). 83 ∷ digit ∷ t) (append_assoc (spelled bytes) (10 ∷ []) text) in
    ap (s_read width (suc n)) whole
    ∙ ap₂ (λ (t u : List ℕ). s_step width digit (placed_by width (unspelled t)) (s_read width n u)) (front_of bytes text) (behind_of bytes text)
    ∙ ap (λ (t : List ℕ). s_step width digit (placed_by width t) (s_read width n text)) (unspelled_of bytes)

data_taken : (width : SAddress) (own later : List (ℕ × ℕ)) → s_step width (data_digit width) own later ≡ own ++ later
unfolding s_step
data_taken Bits16 own later = refl
data_taken Bits24 own later = refl
data_taken Bits32 own later = refl

header_passed : (width : SAddress) (own later : List (ℕ × ℕ)) → s_step width header_digit own later ≡ later
unfolding s_step
header_passed Bits16 own later = refl
header_passed Bits24 own later = refl
header_passed Bits32 own later = refl

end_left : (width : SAddress) (own later : List (ℕ × ℕ)) → s_step width (end_digit width) own later ≡ []
unfolding s_step
end_left Bits16 own later = refl
end_left Bits24 own later = refl
end_left Bits32 own later = refl

abbrev summed : SAddress → ℕ → List ℕ → List ℕ
summed width address bytes = record_bytes width address bytes ++ complement (record_bytes width address bytes) ∷ []

s_means_read : (width : SAddress) (start : ℕ) (text : List ℕ) (m : List (ℕ × ℕ)) → MeansS width start text m → (n : ℕ) → length text < n → s_read width n text ≡ m
s_means_read width start text m h zero small = absurd (omega arith)
s_means_read width start _ _ (s_bytes_at address bytes text m are few fits means) (suc n) small =
    let own : List ℕ = line (83 ∷ data_digit width ∷ []) (summed width address bytes) in
    let both = length-append own text in
    let left : length text < n = omega (arith, both) in
    s_line_read width n (data_digit width) (summed width address bytes) text
    ∙ data_taken width (placed_by width (summed width address bytes)) (s_read width n text)
    ∙ ap₂ (λ (s t : List (ℕ × ℕ)). s ++ t) (record_placed width address bytes (complement (record_bytes width address bytes)) fits) (s_means_read width start text m means n left)
s_means_read width start _ _ (s_header bytes text m are few means) (suc n) small =
    let own : List ℕ = line (83 ∷ header_digit ∷ []) (summed Bits16 0 bytes) in
    let both = length-append own text in
    let left : length text < n = omega (arith, both) in
    s_line_read width n header_digit (summed Bits16 0 bytes) text
    ∙ header_passed width (placed_by width (summed Bits16 0 bytes)) (s_read width n text)
    ∙ s_means_read width start text m means n left
s_means_read width start _ _ s_ends (suc n) small =
    let own : List ℕ = line (83 ∷ end_digit width ∷ []) (summed width start []) in
    ap (s_read width (suc n)) (sym (append-nil own)) ∙ s_line_read width n (end_digit width) (summed width start []) [] ∙ end_left width (placed_by width (summed width start [])) (s_read width n [])

-- S-records have one meaning
pub s_unique : (width : SAddress) (start end : ℕ) (text : List ℕ) (m k : List (ℕ × ℕ)) → MeansS width start text m → MeansS width end text k → m ≡ k
s_unique width start end text m k one other = sym (s_means_read width start text m one (suc (length text)) (omega arith)) ∙ s_means_read width end text k other (suc (length text)) (omega arith)
