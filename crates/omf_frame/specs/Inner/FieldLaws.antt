-- No encoding of a field is a prefix of another, and `shortest` is an encoding.
use Rattle.std.proofs.Common.{◌≡◌, inl, inr, ℕ, zero, suc, ◌+◌, ◌*◌, ◌/◌, ◌%◌, ◌^◌, ◌<◌, ◌≤◌, List, [], ◌∷◌, ◌++◌, length, take, refl, sym, ap, ◌∙◌, arith, cond, ltb, leb, Bool, true, false}
use borrow.Author.Tests.{ltb-true, ltb-false, leb-true, leb-false}
use Rattle.std.proofs.Math.Nat.{mod-lt}
use Rattle.std.specs.Int.{byte_at, bytes_low_first}
use Rattle.std.proofs.lemmas.List.{take_at, append-nil}
use Rattle.byteorder.specs.Endian.{little_bytes, little_number}
use Rattle.byteorder.specs.Numbers.{little_number-reads_back, little_from-lt, length-bytes_low_first}
use Rattle.omf_frame.specs.Bytes.{AreBytes}
use Rattle.omf_frame.specs.Fields.{IsIndex, index_bytes, IsName, IsLittle, IsCommunalLength, communal_length_bytes}

-- prefixes of equal length are equal
pub same_front : {A : Type 0} (a b r s : List A) → length a ≡ length b → a ++ r ≡ b ++ s → a ≡ b
same_front a b r s n e = sym (take_at a r (length b) n) ∙ ap (take (length b)) e ∙ take_at b s (length b) refl

pub are_bytes_none : AreBytes []
are_bytes_none i = omega arith

pub are_bytes_cons : (b : ℕ) (bs : List ℕ) → b < 256 → AreBytes bs → AreBytes (b ∷ bs)
are_bytes_cons b bs h all zero = h
are_bytes_cons b bs h all (suc i) = all i

byte_at-lt : (j x : ℕ) → byte_at j x < 256
byte_at-lt zero x = mod-lt x (omega arith)
byte_at-lt (suc j) x = mod-lt _ (omega arith)

are_bytes_low_first : (j k x : ℕ) → AreBytes (bytes_low_first j k x)
are_bytes_low_first j zero x = are_bytes_none
are_bytes_low_first j (suc k) x = are_bytes_cons (byte_at j x) (bytes_low_first (suc j) k x) (byte_at-lt j x) (are_bytes_low_first (suc j) k x)

-- little-endian numbers
pub little_free : (k x y : ℕ) (a b r s : List ℕ) → IsLittle k x a → IsLittle k y b → a ++ r ≡ b ++ s → (a ≡ b) × (x ≡ y)
little_free k x y a b r s h g e =
    let same = same_front a b r s (h.count ∙ sym g.count) e in
    (same, h.value ∙ ap (little_number k) same ∙ sym g.value)

pub little_spelled : (k x : ℕ) → x < 256 ^ k → IsLittle k x (little_bytes k x)
little_spelled k x h = record {
  count = length-bytes_low_first 0 k x;
  bytes_fit = are_bytes_low_first 0 k x;
  value = sym (ap (little_number k) (sym (append-nil (little_bytes k x))) ∙ little_number-reads_back k x [] h);
}

pub little_fits : (k x : ℕ) (a : List ℕ) → IsLittle k x a → x < 256 ^ k
little_fits k x a h = rw h.value (little_from-lt 0 k a h.bytes_fit)

pub little_shortest : (k x : ℕ) (a : List ℕ) → IsLittle k x a → IsLittle k x (little_bytes k x) × (length (little_bytes k x) ≤ length a)
little_shortest k x a h =
    (little_spelled k x (little_fits k x a h), omega (arith, length-bytes_low_first 0 k x, h.count))

-- the two results of a test
pub by_lt : (m n : ℕ) (P : Bool → Type 0) → (m < n → P true) → (n ≤ m → P false) → P (ltb m n)
by_lt m n P low high =
    let cases : (b : Bool) → ltb m n ≡ b → P b = elim [ true ↦ λ e. low (ltb-true m n e) | false ↦ λ e. high (ltb-false m n e) ] in
    cases (ltb m n) refl

pub by_le : (m n : ℕ) (P : Bool → Type 0) → (m ≤ n → P true) → (n < m → P false) → P (leb m n)
by_le m n P low high =
    let cases : (b : Bool) → leb m n ≡ b → P b = elim [ true ↦ λ e. low (leb-true m n e) | false ↦ λ e. high (leb-false m n e) ] in
    cases (leb m n) refl

-- an index
pub index_free : (x y : ℕ) (a b r s : List ℕ) → IsIndex x a → IsIndex y b → a ++ r ≡ b ++ s → (a ≡ b) × (x ≡ y)
index_free x y (p ∷ []) (q ∷ []) r s h g e = let f : p ≡ q = cc in (cc, omega arith)
index_free x y (p ∷ []) (q ∷ t ∷ []) r s h g e = let f : p ≡ q = cc in absurd (omega arith)
index_free x y (p ∷ u ∷ []) (q ∷ []) r s h g e = let f : p ≡ q = cc in absurd (omega arith)
index_free x y (p ∷ u ∷ []) (q ∷ t ∷ []) r s h g e = let f : p ≡ q = cc in let d : u ≡ t = cc in (cc, omega arith)
index_free x y [] b r s h g e = absurd h
index_free x y (p ∷ u ∷ v ∷ a) b r s h g e = absurd h
index_free x y (p ∷ []) [] r s h g e = absurd g
index_free x y (p ∷ u ∷ []) [] r s h g e = absurd g
index_free x y (p ∷ []) (q ∷ t ∷ w ∷ b) r s h g e = absurd g
index_free x y (p ∷ u ∷ []) (q ∷ t ∷ w ∷ b) r s h g e = absurd g

pub index_spelled : (x : ℕ) → x < 128 * 256 → IsIndex x (index_bytes x)
index_spelled x h =
    by_lt x 128 (λ b. IsIndex x (cond b (x ∷ []) ((x / 256 + 128) ∷ x % 256 ∷ []))) (λ lt. (lt, refl))
    (λ ge. (omega arith, omega arith, omega arith, omega arith))

pub index_shortest : (x : ℕ) (a : List ℕ) → IsIndex x a → IsIndex x (index_bytes x) × (length (index_bytes x) ≤ length a)
index_shortest x (p ∷ []) h =
    (index_spelled x (omega arith), by_lt x 128 (λ b. length (cond b (x ∷ []) ((x / 256 + 128) ∷ x % 256 ∷ [])) ≤ 1) (λ lt. omega arith) (λ ge. absurd (omega arith)))
index_shortest x (p ∷ q ∷ []) h =
    (index_spelled x (omega arith), by_lt x 128 (λ b. length (cond b (x ∷ []) ((x / 256 + 128) ∷ x % 256 ∷ [])) ≤ 2) (λ lt. omega arith) (λ ge. omega arith))
index_shortest x [] h = absurd h
index_shortest x (p ∷ q ∷ t ∷ a) h = absurd h

-- a name
pub name_free : (x y a b r s : List ℕ) → IsName x a → IsName y b → a ++ r ≡ b ++ s → (a ≡ b) × (x ≡ y)
name_free x y a b r s h g e =
    let f : (length x ∷ x) ++ r ≡ (length y ∷ y) ++ s = cc in
    let n : length x ≡ length y = cc in
    let t : x ++ r ≡ y ++ s = cc in
    let same = same_front x y r s n t in
    (cc, same)

pub name_shortest : (x a : List ℕ) → IsName x a → IsName x (length x ∷ x) × (length (length x ∷ x) ≤ length a)
name_shortest x a h = ((h.0, refl), rw (h.1) (omega arith))

-- after the first byte
communal_same : (x y p q : ℕ) (a b r s : List ℕ) → p ≡ q → a ++ r ≡ b ++ s → IsCommunalLength x (p ∷ a) → IsCommunalLength y (q ∷ b) → (a ≡ b) × (x ≡ y)
communal_same x y p q a b r s f e (inl h) (inl g) = (h.1 ∙ sym g.1, omega arith)
communal_same x y p q a b r s f e (inr (inl h)) (inr (inl g)) = little_free 2 x y a b r s h.1 g.1 e
communal_same x y p q a b r s f e (inr (inr (inl h))) (inr (inr (inl g))) = little_free 3 x y a b r s h.1 g.1 e
communal_same x y p q a b r s f e (inr (inr (inr h))) (inr (inr (inr g))) = little_free 4 x y a b r s h.1 g.1 e
communal_same x y p q a b r s f e (inl h) (inr (inl g)) = absurd (omega arith)
communal_same x y p q a b r s f e (inl h) (inr (inr (inl g))) = absurd (omega arith)
communal_same x y p q a b r s f e (inl h) (inr (inr (inr g))) = absurd (omega arith)
communal_same x y p q a b r s f e (inr (inl h)) (inl g) = absurd (omega arith)
communal_same x y p q a b r s f e (inr (inl h)) (inr (inr (inl g))) = absurd (omega arith)
communal_same x y p q a b r s f e (inr (inl h)) (inr (inr (inr g))) = absurd (omega arith)
communal_same x y p q a b r s f e (inr (inr (inl h))) (inl g) = absurd (omega arith)
communal_same x y p q a b r s f e (inr (inr (inl h))) (inr (inl g)) = absurd (omega arith)
communal_same x y p q a b r s f e (inr (inr (inl h))) (inr (inr (inr g))) = absurd (omega arith)
communal_same x y p q a b r s f e (inr (inr (inr h))) (inl g) = absurd (omega arith)
communal_same x y p q a b r s f e (inr (inr (inr h))) (inr (inl g)) = absurd (omega arith)
communal_same x y p q a b r s f e (inr (inr (inr h))) (inr (inr (inl g))) = absurd (omega arith)

-- a communal length
pub communal_free : (x y : ℕ) (a b r s : List ℕ) → IsCommunalLength x a → IsCommunalLength y b → a ++ r ≡ b ++ s → (a ≡ b) × (x ≡ y)
communal_free x y [] b r s h g e = absurd h
communal_free x y (p ∷ a) [] r s h g e = absurd g
communal_free x y (p ∷ a) (q ∷ b) r s h g e =
    let f : p ≡ q = cc in
    let same = communal_same x y p q a b r s f (cc) h g in
    let t : a ≡ b = same.0 in (cc, same.1)

pub communal_spelled : (x : ℕ) → x < 2 ^ 32 → IsCommunalLength x (communal_length_bytes x)
communal_spelled x h =
    by_le x 128 (λ b. IsCommunalLength x (cond b (x ∷ []) (cond (ltb x (256 * 256)) (129 ∷ little_bytes 2 x) (cond (ltb x (256 * 256 * 256)) (132 ∷ little_bytes 3 x) (136 ∷ little_bytes 4 x))))) (λ le. inl (le, refl, refl))
    (λ _. by_lt x (256 * 256) (λ b. IsCommunalLength x (cond b (129 ∷ little_bytes 2 x) (cond (ltb x (256 * 256 * 256)) (132 ∷ little_bytes 3 x) (136 ∷ little_bytes 4 x)))) (λ lt. inr (inl (refl, little_spelled 2 x lt)))
    (λ _. by_lt x (256 * 256 * 256) (λ b. IsCommunalLength x (cond b (132 ∷ little_bytes 3 x) (136 ∷ little_bytes 4 x))) (λ lt. inr (inr (inl (refl, little_spelled 3 x lt))))
    (λ _. inr (inr (inr (refl, little_spelled 4 x h))))))

communal_length : (x m : ℕ) → (x ≤ 128 → 1 ≤ m) → (128 < x → x < 256 * 256 → 3 ≤ m) → (256 * 256 ≤ x → x < 256 * 256 * 256 → 4 ≤ m) → (256 * 256 * 256 ≤ x → 5 ≤ m) → length (communal_length_bytes x) ≤ m
communal_length x m one two three four =
    by_le x 128 (λ b. length (cond b (x ∷ []) (cond (ltb x (256 * 256)) (129 ∷ little_bytes 2 x) (cond (ltb x (256 * 256 * 256)) (132 ∷ little_bytes 3 x) (136 ∷ little_bytes 4 x)))) ≤ m) one
    (λ more. by_lt x (256 * 256) (λ b. length (cond b (129 ∷ little_bytes 2 x) (cond (ltb x (256 * 256 * 256)) (132 ∷ little_bytes 3 x) (136 ∷ little_bytes 4 x))) ≤ m) (two more)
    (λ ge. by_lt x (256 * 256 * 256) (λ b. length (cond b (132 ∷ little_bytes 3 x) (136 ∷ little_bytes 4 x)) ≤ m) (three ge) four))

pub communal_shortest : (x : ℕ) (a : List ℕ) → IsCommunalLength x a → IsCommunalLength x (communal_length_bytes x) × (length (communal_length_bytes x) ≤ length a)
communal_shortest x [] h = absurd h
communal_shortest x (p ∷ a) (inl h) =
    (communal_spelled x (omega arith), communal_length x _ (λ le. omega arith) (λ gt lt. absurd (omega arith)) (λ ge lt. absurd (omega arith)) (λ ge. absurd (omega arith)))
communal_shortest x (p ∷ a) (inr (inl h)) =
    let n = little_fits 2 x a h.1 in
    let k = h.1.count in
    (communal_spelled x (omega arith), communal_length x _ (λ le. omega arith) (λ gt lt. omega arith) (λ ge lt. absurd (omega arith)) (λ ge. absurd (omega arith)))
communal_shortest x (p ∷ a) (inr (inr (inl h))) =
    let n = little_fits 3 x a h.1 in
    let k = h.1.count in
    (communal_spelled x (omega arith), communal_length x _ (λ le. omega arith) (λ gt lt. omega arith) (λ ge lt. omega arith) (λ ge. absurd (omega arith)))
communal_shortest x (p ∷ a) (inr (inr (inr h))) =
    let n = little_fits 4 x a h.1 in
    let k = h.1.count in
    (communal_spelled x (omega arith), communal_length x _ (λ le. omega arith) (λ gt lt. omega arith) (λ ge lt. omega arith) (λ ge. omega arith))
