-- The addresses that are free for segments that are not in a program (this profile's rule).
use Rattle.std.specs.Prelude.{◌≡◌, ◌⊎◌, ◌<◌, ◌≤◌, ◌+◌, ◌-◌, ◌*◌, ◌^◌, ℕ, List, All, Contains, min}
use Rattle.std.specs.List.Sorted.{IsNonDecreasingBy}
use Rattle.omf_find.specs.declared.gaps.Gap.{Gap}
use Rattle.omf_find.specs.declared.room.Room.{Room}
use Rattle.omf_find.specs.declared.rows.SegmentRow.{SegmentRow}

-- ---- gaps

-- An address is in one of these gaps.
abbrev pub IsInGaps : List Gap → ℕ → Type 0
IsInGaps gs x = (g : Gap) × Contains gs g × (g.first ≤ x) × (x < g.end)

-- None of these segments has an address.
abbrev pub Has : SegmentRow → ℕ → Type 0
Has r x = (r.address ≤ x) × (x < r.address + r.length)

abbrev pub IsOpen : List SegmentRow → ℕ → Type 0
IsOpen rows x = All (λ r. Has r x → ⊥) rows

-- The gaps from one address up to another, between segments in ascending order: they have exactly the addresses there that no segment has.
pub record AreGaps (first end : ℕ) (rows : List SegmentRow) (gs : List Gap) : Type 0 where
  pub each : (x : ℕ) → IsInGaps gs x → (first ≤ x) × (x < end) × IsOpen rows x
  pub every : (x : ℕ) → first ≤ x → x < end → IsOpen rows x → IsInGaps gs x

abbrev pub AreInOrder : List SegmentRow → Type 0
AreInOrder rows = IsNonDecreasingBy (λ r. r.address) rows

-- The addresses from one up to another are added to gaps.
pub record AddsGap (first end : ℕ) (old new : List Gap) : Type 0 where
  pub each : (x : ℕ) → IsInGaps new x → IsInGaps old x ⊎ ((first ≤ x) × (x < end))
  pub every : (x : ℕ) → IsInGaps old x ⊎ ((first ≤ x) × (x < end)) → IsInGaps new x

-- ---- room

-- An address is in a gap, or after all segments.
abbrev pub IsFree : Room → ℕ → Type 0
IsFree r x = IsInGaps r.gaps.items x ⊎ (r.next ≤ x)

-- The free addresses are exactly those that no segment has.
abbrev pub IsAround : List SegmentRow → Room → Type 0
IsAround rows r = (x : ℕ) → x < 2 ^ 32 → (IsFree r x → IsOpen rows x) × (IsOpen rows x → IsFree r x)

-- What is free in one is so in another.
abbrev pub IsLeftOf : Room → Room → Type 0
IsLeftOf old new = (x : ℕ) → IsFree new x → IsFree old x

-- An address is after segments; a number of 64 bits ends at its largest value.
abbrev pub IsAfter : List SegmentRow → ℕ → Type 0
IsAfter rows next = All (λ r. min (2 ^ 64 - 1) (r.address + r.length) ≤ next) rows

-- A multiple of 16 from an address on, but for the last 16 numbers of 64 bits.
pub record IsParagraph (address p : ℕ) : Type 0 where
  pub times : ℕ
  pub multiple : p ≡ times * 16
  pub low : address + 15 < 2 ^ 64 → address ≤ p
  pub high : 2 ^ 64 ≤ address + 15 → 2 ^ 32 < p

-- A place of a segment of this size, from an address on: at a multiple of 16, and below 2^32.
pub record IsPlaceFor (lowest size a : ℕ) : Type 0 where
  pub low : lowest ≤ a
  pub times : ℕ
  pub multiple : a ≡ times * 16
  pub inside : a + size ≤ 2 ^ 32

-- The same in a gap.
pub record IsPlaceIn (g : Gap) (lowest size a : ℕ) : Type 0 where
  pub place : IsPlaceFor lowest size a
  pub after : g.first ≤ a
  pub before : a + size ≤ g.end

-- Room for a segment of this size: each address of it is free.
pub record IsRoom (r : Room) (lowest size a : ℕ) : Type 0 where
  pub place : IsPlaceFor lowest size a
  pub free : (x : ℕ) → a ≤ x → x < a + size → IsFree r x
