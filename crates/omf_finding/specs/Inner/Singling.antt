-- Segments with one place, and which of them have no rival. Only private functions use these definitions.
use Rattle.std.specs.Prelude.{◌≡◌, ◌⊎◌, ℕ, ◌+◌, ◌-◌, ◌^◌, ◌<◌, ◌≤◌, ◌==◌, ◌&&◌, List, [], ◌∷◌, ◌++◌, length, filter_map, flat_map, min, nat_le, nat_lt, Bool, true, false, Contains, Option, Some, None, option_to_list, slice_get, get_or, if◌then◌else◌}
use Rattle.std.specs.BTreeSet.{BTreeSet, contains_by}
use Rattle.std.specs.Global.{Vec}
use Rattle.std.specs.List.{AllPairs, AllZip}
use Rattle.std.specs.Ordering.{nat_cmp, ordering_then}
use Rattle.std.specs.declared.cmp.Ordering.{Ordering}
use Rattle.omf_check.specs.Module.{Module, recs_of}
use Rattle.omf_finding.specs.Chain.{enough}
use Rattle.omf_finding.specs.Finding.{IsInside}
use Rattle.omf_finding.specs.Inner.Shaping.{HasShapes}
use Rattle.omf_finding.specs.Sure.{IsRivaled}
use Rattle.omf_finding.specs.declared.program.Program.{Program}
use Rattle.omf_finding.specs.declared.shapes.Shape.{Shape}
use Rattle.omf_finding.specs.declared.singles.Rated.{Rated}
use Rattle.omf_finding.specs.declared.singles.Single.{Single}

-- ---- one segment

abbrev pub single_at : ℕ → Shape → ℕ → Single
single_at owner s address = record { start = address + s.first; end = min (address + s.end) (2 ^ 64 - 1); address = address; owner = owner; segment = s.segment; closed = s.closed }

abbrev pub if_long : Single → Option Single
if_long x = if nat_lt x.start x.end then Some x else None

abbrev pub single_of_places : ℕ → Shape → List ℕ → Bool → Option Single
single_of_places owner s (address ∷ []) false = if_long (single_at owner s address)
single_of_places owner s _ _ = None

-- A segment of a module, if it has one place, with enough closed bytes that vary.
abbrev pub single_with : ℕ → ℕ → Shape → Option Single
single_with owner least s = if nat_le least s.closed && nat_le (min least 8) s.varied then single_of_places owner s s.places.items s.more else None

abbrev pub pushed : List Single → Option Single → List Single
pushed xs x = xs ++ option_to_list x

-- ---- all segments

-- What a module with this number has.
abbrev pub own_singles : ℕ → ℕ → Module → List Shape → List Single
own_singles n owner m ss = filter_map (λ s. single_with owner (enough n (recs_of m.bytes) s.segment) s) ss

-- A segment of this list is that of a module.
pub record IsOwned (n : ℕ) (ms : List Module) (shapes : List (Vec Shape)) (x : Single) : Type 0 where
  pub m : Module
  pub ss : Vec Shape
  pub s : Shape
  pub module_is : slice_get ms x.owner ≡ Some m
  pub shapes_are : slice_get shapes x.owner ≡ Some ss
  pub of : Contains ss.items s
  pub is : single_with x.owner (enough n (recs_of m.bytes) s.segment) s ≡ Some x

-- The segments of the first k modules.
pub record HaveSingles (n : ℕ) (ms : List Module) (shapes : List (Vec Shape)) (k : ℕ) (all : List Single) : Type 0 where
  pub each : (x : Single) → Contains all x → IsOwned n ms shapes x × (x.owner < k)
  pub every : (i : ℕ) (m : Module) (ss : Vec Shape) (s : Shape) (x : Single) → i < k → slice_get ms i ≡ Some m → slice_get shapes i ≡ Some ss → Contains ss.items s → single_with i (enough n (recs_of m.bytes) s.segment) s ≡ Some x → Contains all x

-- The segments of modules have these shapes, in some program.
abbrev pub AreShapesOf : List Module → List (Vec Shape) → Type 0
AreShapesOf ms shapes = (program : Program) × (most : ℕ) × AllZip (HasShapes program most) ms shapes

abbrev pub same_key : Single → Single → Bool
same_key x y = (x.owner == y.owner) && (x.segment == y.segment)

-- No two of them are of one segment.
abbrev pub AreApart : List Single → Type 0
AreApart xs = AllPairs (λ x y. same_key x y ≡ false) xs

-- ---- those without a rival

abbrev pub Keys : Type 0
Keys = BTreeSet (ℕ × ℕ)

abbrev pub key_cmp : ℕ × ℕ → ℕ × ℕ → Ordering
key_cmp x y = ordering_then (nat_cmp x.0 y.0) (nat_cmp x.1 y.1)

-- A set has a module and a segment.
abbrev pub has_key : Keys → ℕ → ℕ → Bool
has_key s owner segment = contains_by (key_cmp (owner, segment)) s

-- A segment with a place is among those that count, and has no rival.
abbrev pub IsKept : Option Rated → Single → Type 0
IsKept None x = ⊥
IsKept (Some r) x = (r.single ≡ x) × (r.is_rivaled ≡ false)

pub record IsAdded (old new : Keys) (last : Option Rated) : Type 0 where
  pub keeps : (owner segment : ℕ) → has_key old owner segment ≡ true → has_key new owner segment ≡ true
  pub adds : (x : Single) → IsKept last x → has_key new x.owner x.segment ≡ true

-- One step: the next one overlaps the last, and the one with more closed bytes counts; or it does not, and the last is added if it has no rival.
abbrev pub IsOver : Keys → Keys → Option Rated → Single → Rated → Type 0
IsOver old new last y r =
    (before : Rated) × (last ≡ Some before) × (y.start < before.single.end) × (before.single.closed < y.closed → r ≡ record { single = y; is_rivaled = false }) × (y.closed < before.single.closed → r ≡ before)
    × ((r.single ≡ before.single) ⊎ (r.single ≡ y)) × (new ≡ old)

abbrev pub IsStep : Keys → Keys → Option Rated → Single → Rated → Type 0
IsStep old new last y r = IsOver old new last y r ⊎ (r ≡ record { single = y; is_rivaled = false }) × IsAdded old new last

-- No other one of these overlaps it, but such with fewer closed bytes.
abbrev pub IsUnrivaledAmong : List Single → Single → Type 0
IsUnrivaledAmong xs x = (y : Single) → Contains xs y → same_key x y ≡ false → x.start < y.end → y.start < x.end → y.closed < x.closed

-- Each segment with one place, with enough closed bytes that vary and without a rival, is in a set.
abbrev pub AreSingles : Program → ℕ → List Module → List (Vec Shape) → Keys → Type 0
AreSingles program n ms shapes s =
    IsInside program → (i : ℕ) (m : Module) (ss : Vec Shape) (shape : Shape) (x : Single) → slice_get ms i ≡ Some m → slice_get shapes i ≡ Some ss → Contains ss.items shape
    → single_with i (enough n (recs_of m.bytes) shape.segment) shape ≡ Some x → (IsRivaled program ms i m shape.segment x.address shape.closed → ⊥) → has_key s i shape.segment ≡ true
