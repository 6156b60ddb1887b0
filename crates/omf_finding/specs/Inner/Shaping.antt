-- How the places of a segment are computed. Only private functions use these definitions.
use Rattle.std.specs.Prelude.{◌≡◌, ◌<◌, ◌≤◌, ℕ, ◌+◌, ◌-◌, ◌*◌, ◌/◌, ◌%◌, ◌^◌, ◌==◌, ◌&&◌, ◌||◌, not, List, [], ◌∷◌, length, drop, Bool, true, false, nat_le, nat_lt, Option, Some, None, IsSome, IsNone, option_map, unwrap_or, slice_get, Contains, ◌≢◌, if◌then◌else◌}
use Rattle.std.specs.List.{AllPairs, list_all, zip}
use Rattle.std.specs.List.Sorted.{IsNonDecreasing, IsStrictlyIncreasing}
use Rattle.std.specs.Global.{Vec}
use Rattle.std.specs.Option.{option_and_then}
use Rattle.std.specs.Int.{from_le_bytes, w32}
use Rattle.omf_check.specs.Module.{Module, recs_of}
use Rattle.omf_check.specs.Tables.{segments}
use Rattle.omf_image.specs.Limits.{profile_limits}
use Rattle.omf_image.specs.Overlay.{byte_at, IsRunShown}
use Rattle.omf_finding.specs.Agrees.{Agrees, HasFour}
use Rattle.omf_finding.specs.Pattern.{pattern}
use Rattle.omf_finding.specs.Finding.{IsAt, IsCandidate, IsCut, IsInside, IsSought}
use Rattle.omf_finding.specs.declared.findings.Candidate.{Candidate}
use Rattle.omf_finding.specs.declared.program.Program.{Program}
use Rattle.omf_finding.specs.Inner.Measuring.{IsMeasured}
use Rattle.omf_finding.specs.Inner.Walking.{Marks, byte_in, byte_with}
use Rattle.omf_finding.specs.declared.patterning.Interval.{Interval}
use Rattle.omf_finding.specs.declared.patterning.PatternByte.{PatternByte}
use Rattle.omf_finding.specs.declared.shapes.Rare.{Rare}
use Rattle.omf_finding.specs.declared.shapes.Shape.{Shape}
use Rattle.omf_finding.specs.declared.shapes.Tried.{Tried}
use Rattle.omf_finding.specs.declared.shapes.Tried.TheVariants as tried

-- ---- intervals

-- There are marks exactly where there are bytes.
pub record IsMarked (p : Marks) : Type 0 where
  pub has : (segment x : ℕ) → IsSome (byte_at p.values segment x) → IsSome (byte_at p.marks segment x)
  pub only : (segment x : ℕ) → IsSome (byte_at p.marks segment x) → IsSome (byte_at p.values segment x)

-- An interval has as many marks as bytes, and is within a segment's 2^32 bytes.
abbrev pub IsWhole : Interval → Type 0
IsWhole i = (length i.marks.now ≡ length i.values.now) × (i.first + length i.values.now ≤ 2 ^ 32)

-- An interval of a segment, after which there is no byte.
pub record IsInterval (byte : ℕ → Option PatternByte) (i : Interval) : Type 0 where
  pub some : 0 < length i.values.now
  pub same : length i.marks.now ≡ length i.values.now
  pub within : i.first + length i.values.now ≤ 2 ^ 32
  pub each : (k : ℕ) → k < length i.values.now → byte (i.first + k) ≡ byte_with (slice_get i.values.now k) (slice_get i.marks.now k)
  pub after : IsNone (byte (i.first + length i.values.now))

-- The interval of the k-th run of a segment, from 0; none after the last.
abbrev pub IsIntervalAt : Marks → ℕ → ℕ → Option Interval → Type 0
IsIntervalAt p segment k None = IsRunShown (byte_at p.values segment) k None
IsIntervalAt p segment k (Some i) = IsRunShown (byte_at p.values segment) k (Some (i.first, i.values.now)) × IsInterval (byte_in p segment) i

-- A place is in an interval.
abbrev pub IsWithin : Interval → ℕ → Type 0
IsWithin i x = (i.first ≤ x) × (x < i.first + length i.values.now)

-- Each interval ends before the next ones.
abbrev pub AreInOrder : List Interval → Type 0
AreInOrder is = (j k : ℕ) (a b : Interval) → j < k → slice_get is j ≡ Some a → slice_get is k ≡ Some b → a.first + length a.values.now ≤ b.first

-- Intervals have each byte of a segment.
pub record AreIntervals (byte : ℕ → Option PatternByte) (is : List Interval) : Type 0 where
  pub ordered : AreInOrder is
  pub each : (i : Interval) → Contains is i → IsInterval byte i
  pub every : (x : ℕ) → IsSome (byte x) → (i : Interval) × Contains is i × IsWithin i x

-- ---- agreement

-- The bytes from an address on.
abbrev pub bytes_from : List ℕ → ℕ → ℕ → List ℕ
bytes_from program base address = if nat_le base address then drop (address - base) program else []

-- A byte with a mark agrees with a byte of a program.
abbrev pub cell_agrees : ℕ → ℕ → ℕ → Bool
cell_agrees value mark byte = (mark == 1) || (value == byte)

abbrev pub cells_agree : List ℕ → List ℕ → List ℕ → Bool
cells_agree values marks bytes = list_all (λ p. cell_agrees p.0.0 p.0.1 p.1) (zip (zip values marks) bytes)

abbrev pub run_agrees : List ℕ → List ℕ → List ℕ → Bool
run_agrees values marks bytes = nat_le (length values) (length bytes) && cells_agree values marks bytes

abbrev pub interval_agrees : List ℕ → ℕ → ℕ → Interval → Bool
interval_agrees program base address i = run_agrees i.values.now i.marks.now (bytes_from program base (address + i.first))

abbrev pub is_at : List ℕ → ℕ → List Interval → ℕ → Bool
is_at program base is address = list_all (interval_agrees program base address) is

-- ---- four closed bytes in a row

abbrev pub front : List ℕ → Option ℕ
front (a ∷ b ∷ c ∷ d ∷ bytes) = Some (from_le_bytes w32 (a ∷ b ∷ c ∷ d ∷ []))
front _ = None

abbrev pub closed_front : List ℕ → List ℕ → Option ℕ
closed_front values (a ∷ b ∷ c ∷ d ∷ marks) = if not (a == 1) && (not (b == 1) && (not (c == 1) && not (d == 1))) then front values else None
closed_front values _ = None

-- The number of the four closed bytes at an index of an interval.
abbrev pub key_at : Interval → ℕ → Option ℕ
key_at i at = closed_front (drop at i.values.now) (drop at i.marks.now)

-- They are at this index of the interval.
pub record IsRareAt (i : Interval) (r : Rare) (at : ℕ) : Type 0 where
  pub low : at < length i.values.now
  pub key : key_at i at ≡ Some r.key
  pub offset : r.offset ≡ i.first + at

abbrev pub IsRareIn : Interval → Rare → Type 0
IsRareIn i r = (at : ℕ) × IsRareAt i r at

-- None of the first n indices of an interval has any.
abbrev pub HasNoneBelow : Interval → ℕ → Type 0
HasNoneBelow i n = (at : ℕ) → at < n → key_at i at ≡ None

abbrev pub HasNone : Interval → Type 0
HasNone i = HasNoneBelow i (length i.values.now)

abbrev pub IsRareOf : List Interval → Rare → Type 0
IsRareOf is r = (i : Interval) × Contains is i × IsRareIn i r

-- ---- windows

-- The bucket of four bytes.
abbrev pub bucket_of : ℕ → ℕ
bucket_of key = key * 2654435761 % 2 ^ 32 / 2 ^ 14

-- The windows of marked buckets are kept, and those of buckets past the end of the marks: without marks all are.
abbrev pub is_kept : List Bool → ℕ → Bool
is_kept marks key = unwrap_or (slice_get marks (bucket_of key)) true

-- The windows that are kept, of the first n offsets of a program. Each is its number times 2^32, plus its offset.
abbrev pub HasWindows : (ℕ → Bool) → List ℕ → List ℕ → ℕ → Type 0
HasWindows kept program windows n = (at key : ℕ) → at < n → at < 2 ^ 32 → front (drop at program) ≡ Some key → kept key ≡ true → Contains windows (key * 2 ^ 32 + at)

abbrev pub if_kept : (ℕ → Bool) → ℕ → Option ℕ
if_kept kept key = if kept key then Some key else None

-- The window at an offset, if it is kept.
abbrev pub window_at : (ℕ → Bool) → List ℕ → ℕ → Option ℕ
window_at kept program at = option_map (λ key. key * 2 ^ 32 + at) (option_and_then (if_kept kept) (front (drop at program)))

-- A window of the first n offsets of a program.
pub record IsWindow (program : List ℕ) (n window : ℕ) : Type 0 where
  pub at : ℕ
  pub key : ℕ
  pub before : at < n
  pub low : at < 2 ^ 32
  pub there : front (drop at program) ≡ Some key
  pub is : window ≡ key * 2 ^ 32 + at

-- These are windows of the first n offsets of a program, and no two are one.
pub record OnlyWindows (program windows : List ℕ) (n : ℕ) : Type 0 where
  pub each : (window : ℕ) → Contains windows window → IsWindow program n window
  pub distinct : AllPairs (λ x y. x ≢ y) windows

pub record AreWindows (kept : ℕ → Bool) (program sorted : List ℕ) : Type 0 where
  pub has : HasWindows kept program sorted (length program)
  pub each : (window : ℕ) → Contains sorted window → IsWindow program (length program) window
  pub increases : IsStrictlyIncreasing sorted
  pub rises : IsNonDecreasing sorted

-- The offset of a window with this number.
abbrev pub offset_with : ℕ → ℕ → Option ℕ
offset_with key window = if nat_le (key * 2 ^ 32) window && nat_lt (window - key * 2 ^ 32) (2 ^ 32) then Some (window - key * 2 ^ 32) else None

abbrev pub offset_in : List ℕ → ℕ → ℕ → Option ℕ
offset_in sorted number key = option_and_then (offset_with key) (slice_get sorted number)

-- ---- places

abbrev pub address_for : ℕ → ℕ → ℕ → Option ℕ
address_for base at offset = if nat_lt (base + at) (2 ^ 32) && nat_le offset (base + at) then Some (base + at - offset) else None

abbrev pub tried_at : (ℕ → Bool) → Option ℕ → Tried
tried_at test (Some address) = if test address then tried.Place address else tried.Other
tried_at test None = tried.Other

abbrev pub tried_with : (ℕ → Bool) → ℕ → ℕ → Option ℕ → Tried
tried_with test base offset (Some at) = tried_at test (address_for base at offset)
tried_with test base offset None = tried.End

-- The places that the windows up to a number show.
abbrev pub HasPlaces : (ℕ → Tried) → ℕ → ℕ → List ℕ → Type 0
HasPlaces try first number places = (k address : ℕ) → first ≤ k → k < number → try k ≡ tried.Place address → Contains places address

-- Places in ascending order. Each passes a test, and where there are no more, all that pass it are there.
pub record ArePlaces (byte : ℕ → Option PatternByte) (program : List ℕ) (base : ℕ) (places : List ℕ) (more : Bool) : Type 0 where
  pub rising : IsStrictlyIncreasing places
  pub agree : (address : ℕ) → Contains places address → Agrees byte program base address
  pub all : more ≡ false → base + length program ≤ 2 ^ 32 → (address : ℕ) → Agrees byte program base address → Contains places address

-- What is known of a segment with this pattern.
pub record IsShape (byte : ℕ → Option PatternByte) (program : List ℕ) (base most : ℕ) (s : Shape) : Type 0 where
  pub places : ArePlaces byte program base s.places.items s.more
  pub sought : HasFour byte → s.is_searched ≡ true
  pub found : s.is_searched ≡ true → HasFour byte
  pub others : s.is_searched ≡ false → s.more ≡ true
  pub cut : s.is_searched ≡ true → s.more ≡ true → IsCut byte program base most s.places.items
  pub measured : IsMeasured byte s

-- The shapes of the segments of a module: each of the first n segments has one.
pub record AreShapes (byte : ℕ → ℕ → Option PatternByte) (program : List ℕ) (base most n : ℕ) (ss : List Shape) : Type 0 where
  pub each : (s : Shape) → Contains ss s → IsShape (byte s.segment) program base most s
  pub every : (segment : ℕ) → 1 ≤ segment → segment ≤ n → (s : Shape) × Contains ss s × (s.segment ≡ segment)
  pub numbered : (k : ℕ) (s : Shape) → slice_get ss k ≡ Some s → s.segment ≡ k + 1

-- The bytes of a segment of a module, as its pattern has them.
abbrev pub bytes_of : Module → ℕ → ℕ → Option PatternByte
bytes_of m segment = pattern profile_limits (recs_of m.bytes) segment

abbrev pub IsShapeOf : Program → ℕ → Module → Shape → Type 0
IsShapeOf program most m s = IsShape (bytes_of m s.segment) program.bytes.items program.base most s

-- The segments of a module have these shapes.
abbrev pub HaveShapes : Program → ℕ → Module → List Shape → Type 0
HaveShapes program most m ss = AreShapes (bytes_of m) program.bytes.items program.base most (length (segments (recs_of m.bytes))) ss

abbrev pub HasShapes : Program → ℕ → Module → Vec Shape → Type 0
HasShapes program most m ss = HaveShapes program most m ss.items

-- ---- candidates

-- A pattern with marks is that of a module.
pub record IsPatternOf (m : Module) (p : Marks) : Type 0 where
  pub bytes : (segment x : ℕ) → byte_in p segment x ≡ bytes_of m segment x
  pub marked : IsMarked p

-- A segment agrees with a program at each of these addresses, in ascending order.
pub record AgreeAt (byte : ℕ → Option PatternByte) (program : Program) (addresses : List ℕ) : Type 0 where
  pub rising : IsStrictlyIncreasing addresses
  pub each : (address : ℕ) → Contains addresses address → Agrees byte program.bytes.items program.base address

-- What is offered of a segment: a candidate, or none if it agrees nowhere or is not searched for.
abbrev pub IsOffered : Program → ℕ → Module → Shape → Option Candidate → Type 0
IsOffered program most m s None = IsInside program → (address : ℕ) → IsSought m s.segment → IsAt program m s.segment address → ⊥
IsOffered program most m s (Some c) = IsCandidate program most m c × (c.segment ≡ s.segment)
