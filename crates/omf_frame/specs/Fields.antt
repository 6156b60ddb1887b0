-- Fields and their encodings, called spellings (TIS OMF 1.1, "Frequently used fields": names, indices; COMDEF, communal lengths).
-- Each relation is between a value and its bytes, and bounds the value.
use Rattle.std.specs.Prelude.{◌≡◌, ◌⊎◌, ℕ, ◌+◌, ◌-◌, ◌*◌, ◌/◌, ◌%◌, ◌<◌, ◌≤◌, List, [], ◌∷◌, ◌++◌, length, slice_range, nat_lt, nat_le, if◌then◌else◌}
use Rattle.byteorder.specs.Endian.{little_bytes, little_number}
use Rattle.omf_frame.specs.Bytes.{AreBytes}

-- An index: one byte below 128, or two with bit 7 of the first set, high byte first.
abbrev pub IsIndex : ℕ → List ℕ → Type 0
IsIndex n [] = ⊥
IsIndex n (a ∷ []) = (a < 128) × (n ≡ a)
IsIndex n (a ∷ b ∷ []) = (128 ≤ a) × (a < 256) × (b < 256) × (n ≡ (a - 128) * 256 + b)
IsIndex n (a ∷ b ∷ c ∷ rest) = ⊥

-- A name: a length byte, and that many bytes.
abbrev pub IsName : List ℕ → List ℕ → Type 0
IsName name bytes = (length name < 256) × (bytes ≡ length name ∷ name)

-- A little-endian number of k bytes.
pub record IsLittle (k n : ℕ) (bytes : List ℕ) : Type 0 where
  pub count : length bytes ≡ k
  pub bytes_fit : AreBytes bytes
  pub value : n ≡ little_number k bytes

-- A communal length: a byte up to 128, or 81H, 84H or 88H and a little-endian number of 2, 3 or 4 bytes. This profile's rule: 80H is
-- 128, and all are unsigned.
abbrev pub IsCommunalLength : ℕ → List ℕ → Type 0
IsCommunalLength n [] = ⊥
IsCommunalLength n (a ∷ rest) =
    ((a ≤ 128) × (rest ≡ []) × (n ≡ a)) ⊎ (((a ≡ 0x81) × IsLittle 2 n rest) ⊎ (((a ≡ 0x84) × IsLittle 3 n rest) ⊎ ((a ≡ 0x88) × IsLittle 4 n rest)))

-- The shortest encoding of an index.
abbrev pub index_bytes : ℕ → List ℕ
index_bytes n = if nat_lt n 128 then n ∷ [] else (n / 256 + 128) ∷ n % 256 ∷ []

-- The encoding of a name.
abbrev pub name_bytes : List ℕ → List ℕ
name_bytes name = length name ∷ name

-- The shortest encoding of a communal length.
abbrev pub communal_length_bytes : ℕ → List ℕ
communal_length_bytes n =
    if nat_le n 128 then n ∷ []
    else if nat_lt n (256 * 256) then 0x81 ∷ little_bytes 2 n
    else if nat_lt n (256 * 256 * 256) then 0x84 ∷ little_bytes 3 n
    else 0x88 ∷ little_bytes 4 n

-- The bytes of src from one offset to another encode the value.
abbrev pub IsSpelledAt : {X : Type 0} → (X → List ℕ → Type 0) → List ℕ → ℕ → X → ℕ → Type 0
IsSpelledAt spells src from value to = (from ≤ to) × (to ≤ length src) × spells value (slice_range src from to)

-- No encoding is a prefix of the bytes.
abbrev pub IsUnspelled : {X : Type 0} → (X → List ℕ → Type 0) → List ℕ → Type 0
IsUnspelled {X = X} spells bytes = (value : X) (front back : List ℕ) → spells value front → bytes ≡ front ++ back → ⊥

-- No encoding is a prefix of another: two at the front of the same bytes are equal, and so are their values.
abbrev pub IsPrefixFree : {X : Type 0} → (X → List ℕ → Type 0) → Type 0
IsPrefixFree {X = X} spells = (x y : X) (a b r s : List ℕ) → spells x a → spells y b → a ++ r ≡ b ++ s → (a ≡ b) × (x ≡ y)

-- `shortest` encodes each value that has an encoding, and no encoding is shorter.
abbrev pub IsShortest : {X : Type 0} → (X → List ℕ → Type 0) → (X → List ℕ) → Type 0
IsShortest {X = X} spells shortest = (x : X) (a : List ℕ) → spells x a → spells x (shortest x) × (length (shortest x) ≤ length a)
