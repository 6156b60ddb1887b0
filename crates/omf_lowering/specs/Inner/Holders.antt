-- Which data are the last ones at each place of the segments.
use Rattle.std.specs.Prelude.{◌≡◌, ◌⊎◌, ℕ, ◌+◌, ◌*◌, ◌<◌, ◌≤◌, List, [], ◌∷◌, Bool, ◌==◌, ◌&&◌, nat_lt, Option, Some, None, if◌then◌else◌}
use Rattle.std.specs.Ordering.{nat_cmp}
use Rattle.std.specs.BTreeMap.{BTreeMap, get}
use Rattle.omf_lowering.specs.declared.values.Piece.{Piece}

-- ---- numbers at places

abbrev pub keyed : BTreeMap ℕ ℕ → ℕ → Option ℕ
keyed table key = get nat_cmp table key

-- A table has numbers, each in force from its key up to the next key. This one is in force at a place: that of the last key up to it.
pub record IsFrom (table : ℕ → Option ℕ) (place number : ℕ) : Type 0 where
  pub key : ℕ
  pub low : key ≤ place
  pub is : table key ≡ Some number
  pub last : (k : ℕ) → key < k → k ≤ place → table k ≡ None

-- No key is up to the place; the number is 0.
pub record IsBefore (table : ℕ → Option ℕ) (place number : ℕ) : Type 0 where
  pub is : number ≡ 0
  pub none : (k : ℕ) → k ≤ place → table k ≡ None

abbrev pub IsInForce : (ℕ → Option ℕ) → ℕ → ℕ → Type 0
IsInForce table place number = IsFrom table place number ⊎ IsBefore table place number

-- What is in force in one table is so in another.
abbrev pub AreInForce : (ℕ → Option ℕ) → (ℕ → Option ℕ) → Type 0
AreInForce old new = (place n : ℕ) → IsInForce new place n → IsInForce old place n

-- A number is in force at the places from the first up to the end, and at the others those of the table before.
abbrev pub IsLaid : (ℕ → Option ℕ) → (ℕ → Option ℕ) → ℕ → ℕ → ℕ → Type 0
IsLaid old new first end number = (place n : ℕ) → IsInForce new place n → ((first ≤ place) × (place < end) × (n ≡ number)) ⊎ (((place < first) ⊎ (end ≤ place)) × IsInForce old place n)

-- ---- data at places

-- The number of places of a segment. Each byte has two: the boundary before it, and itself.
abbrev pub span : ℕ
span = 17179869184

-- The places of data: their bytes and the boundaries between these; of data without bytes the boundary where they are.
abbrev pub first_place : Piece → ℕ
first_place p = 2 * p.offset + (if p.size == 0 then 0 else 1)

abbrev pub end_place : Piece → ℕ
end_place p = 2 * (p.offset + p.size) + (if p.size == 0 then 1 else 0)

-- Data have one of the places from the first up to the end.
abbrev pub has_place : ℕ → ℕ → ℕ → Piece → Bool
has_place segment first end p = (p.segment == segment) && (nat_lt (first_place p) end && nat_lt first (end_place p))

-- The number of the last data that pass a test, from 1; 0 if none do.
abbrev pub last_from : (Piece → Bool) → ℕ → ℕ → List Piece → ℕ
last_from test count found [] = found
last_from test count found (p ∷ ps) = last_from test (count + 1) (if test p then count + 1 else found) ps

abbrev pub last_number : (Piece → Bool) → List Piece → ℕ
last_number test pieces = last_from test 0 0 pieces

-- A table has the number of the last data at each place.
pub record AreHeld (table : ℕ → Option ℕ) (pieces : List Piece) : Type 0 where
  pub each : (segment place number : ℕ) → place < span → IsInForce table (segment * span + place) number → number ≡ last_number (has_place segment place (place + 1)) pieces
