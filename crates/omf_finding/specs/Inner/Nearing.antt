-- How the segments that are nearly in a program are computed. Only private functions use these definitions.
use Rattle.std.specs.Prelude.{◌≡◌, ◌⊎◌, ◌<◌, ◌≤◌, ◌+◌, ◌^◌, ◌==◌, ℕ, List, Contains, drop, filter_map, length, nat_le, Bool, Option, Some, None, slice_get, if◌then◌else◌}
use Rattle.std.specs.List.{range_with_len}
use Rattle.omf_finding.specs.Finding.{IsInside}
use Rattle.omf_finding.specs.Fours.{AreAt}
use Rattle.omf_finding.specs.Near.{IsAmong, IsFar, IsNear, IsSame, IsTried}
use Rattle.omf_finding.specs.Inner.Shaping.{front, key_at}
use Rattle.omf_finding.specs.declared.closed.ClosedByte.{ClosedByte}
use Rattle.omf_finding.specs.declared.nearing.Near.{Near}
use Rattle.omf_finding.specs.declared.nearing.Place.{Place}
use Rattle.omf_finding.specs.declared.patterning.Interval.{Interval}
use Rattle.omf_finding.specs.declared.patterning.PatternByte.{PatternByte}
use Rattle.omf_finding.specs.declared.program.Program.{Program}

-- ---- counts

abbrev pub few_differences : ℕ → ℕ → Option ℕ
few_differences most n = if nat_le n most then Some n else None

-- A count after one more byte.
abbrev pub one_more : ℕ → ℕ → Bool → Option ℕ
one_more most count differs = if differs then few_differences most (count + 1) else Some count

abbrev pub better_by : Option Place → Place → Option Place
better_by None place = Some place
better_by (Some best) place = if nat_le best.count place.count then Some best else Some place

-- The better place of two.
abbrev pub better : Option Place → ℕ → Option ℕ → Option Place
better best address None = best
better best address (Some count) = better_by best (record { address = address; count = count })

-- A place with the least count of all these addresses, if one has a count of at most this.
abbrev pub IsBest : (ℕ → ℕ) → ℕ → List ℕ → Option Place → Type 0
IsBest count most addresses None = (a : ℕ) → Contains addresses a → most < count a
IsBest count most addresses (Some place) = (place.count ≡ count place.address) × (place.count ≤ most) × ((a : ℕ) → Contains addresses a → place.count ≤ count a)

-- ---- addresses

-- Addresses are added: those with P are there.
pub record Adds (P : ℕ → Type 0) (old new : List ℕ) : Type 0 where
  pub kept : (a : ℕ) → Contains old a → Contains new a
  pub added : (a : ℕ) → P a → Contains new a

-- A segment at an address has four bytes where the program has them, which are not at 64 places.
pub record IsShownBy (program : List ℕ) (base key offset address : ℕ) : Type 0 where
  pub at : ℕ
  pub low : base + at < 2 ^ 32
  pub there : front (drop at program) ≡ Some key
  pub place : address + offset ≡ base + at
  pub rare : AreAt program key 64 → ⊥

-- The same of the four closed bytes at one of the first n indices of an interval.
pub record IsShownIn (program : List ℕ) (base : ℕ) (i : Interval) (n address : ℕ) : Type 0 where
  pub index : ℕ
  pub below : index < n
  pub key : ℕ
  pub closed : key_at i index ≡ Some key
  pub shown : IsShownBy program base key (i.first + index) address

-- The same of one of these intervals.
abbrev pub IsShownOf : List ℕ → ℕ → List Interval → ℕ → Type 0
IsShownOf program base is address = (i : Interval) × Contains is i × IsShownIn program base i (length i.values.now) address

-- ---- segments

-- What is shown of a segment with this pattern: if nothing, then no byte differs at some address, or at each that is tried more.
abbrev pub IsNearOf : (ℕ → Option PatternByte) → Program → ℕ → ℕ → Option Near → Type 0
IsNearOf byte program most segment None =
    IsInside program → (address : ℕ) → IsTried byte program.bytes.items program.base address → IsSame byte program ⊎ IsFar byte program most address
IsNearOf byte program most segment (Some n) = IsNear byte program most n × (n.segment ≡ segment)

-- The first n segments of a module.
pub record AreNearOf (byte : ℕ → ℕ → Option PatternByte) (program : Program) (most n : ℕ) (ns : List Near) : Type 0 where
  pub each : (near : Near) → Contains ns near → IsNear (byte near.segment) program most near
  pub every : IsInside program → (segment address : ℕ) → 1 ≤ segment → segment ≤ n → IsTried (byte segment) program.bytes.items program.base address
      → IsAmong ns segment ⊎ (IsSame (byte segment) program ⊎ IsFar (byte segment) program most address)
