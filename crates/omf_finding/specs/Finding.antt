-- The verdicts of a search on modules.
use Rattle.std.specs.Prelude.{◌≡◌, ◌⊎◌, ◌<◌, ◌≤◌, ◌+◌, ◌^◌, ℕ, List, [], Bool, Contains, Option, Some, false, true, length}
use Rattle.std.specs.Box.{box_value}
use Rattle.std.specs.List.Sorted.{IsStrictlyIncreasing}
use Rattle.omf_check.specs.Module.{Module, recs_of}
use Rattle.omf_image.specs.Limits.{profile_limits}
use Rattle.omf_finding.specs.declared.findings.Candidate.{Candidate}
use Rattle.omf_finding.specs.declared.findings.Found.{Found}
use Rattle.omf_finding.specs.declared.findings.Verdict.{Verdict}
use Rattle.omf_finding.specs.declared.findings.Why.{Why}
use Rattle.omf_finding.specs.declared.findings.Why.TheVariants as why
use Rattle.omf_finding.specs.declared.findings.Verdict.TheVariants as verdict
use Rattle.omf_finding.specs.declared.program.Program.{Program}
use Rattle.omf_finding.specs.Agrees.{Agrees, HasFour}
use Rattle.omf_finding.specs.Fours.{AreAt, four_closed}
use Rattle.omf_finding.specs.declared.patterning.PatternByte.{PatternByte}
use Rattle.omf_finding.specs.Found.{IsFoundInPart}
use Rattle.omf_finding.specs.Pattern.{pattern}

-- A module is in a program at this placement, but for the absent segments; some segment with data is there.
abbrev pub IsHeld : Program → Module → Found → Type 0
IsHeld program m found = IsFoundInPart (recs_of m.bytes) found.placement found.absent program.bytes.items program.base

-- A segment of a module agrees with a program at an address.
abbrev pub IsAt : Program → Module → ℕ → ℕ → Type 0
IsAt program m segment address = Agrees (pattern profile_limits (recs_of m.bytes) segment) program.bytes.items program.base address

-- A segment is searched for if four of its closed bytes are in a row (this profile's rule).
abbrev pub IsSought : Module → ℕ → Type 0
IsSought m segment = HasFour (pattern profile_limits (recs_of m.bytes) segment)

-- The program ends within the 2^32 addresses that there are.
abbrev pub IsInside : Program → Type 0
IsInside program = program.base + length program.bytes.items ≤ 2 ^ 32

-- A place that is not listed, where as many as may be are: its four bytes at offset x are at this offset of the program.
pub record IsFull (byte : ℕ → Option PatternByte) (program : List ℕ) (base most x at : ℕ) (addresses : List ℕ) : Type 0 where
  pub address : ℕ
  pub agrees : Agrees byte program base address
  pub place : address + x ≡ base + at
  pub full : most ≤ length addresses

-- A program has these four bytes at 64 places before an offset.
pub record IsCommon (program : List ℕ) (key end : ℕ) : Type 0 where
  pub are : AreAt program key 64
  pub before : (i : ℕ) → i < 64 → are.at i < end

-- Not all places of a segment are tried (this profile's rule). Listed are those whose four closed bytes at an offset x of the segment are before
-- offset `end` of the program. There is one more, and the list is full; or these four bytes are at 64 places before `end`.
pub record IsCut (byte : ℕ → Option PatternByte) (program : List ℕ) (base most : ℕ) (addresses : List ℕ) : Type 0 where
  pub x : ℕ
  pub key : ℕ
  pub end : ℕ
  pub closed : four_closed byte x ≡ Some key
  pub listed : base + length program ≤ 2 ^ 32 → (address : ℕ) → Agrees byte program base address → address + x < base + end → Contains addresses address
  pub cause : IsFull byte program base most x end addresses ⊎ IsCommon program key end

-- There may be more places of a segment: it is not searched for, and references give it one; or not all were tried.
abbrev pub MayBeMore : Program → ℕ → Module → Candidate → Type 0
MayBeMore program most m c =
    ((IsSought m c.segment → ⊥) × (0 < length c.addresses.items)) ⊎ IsCut (pattern profile_limits (recs_of m.bytes) c.segment) program.bytes.items program.base most c.addresses.items

-- Why none of the places of a segment is sure, as far as the list of its places shows it. ManyPlaces: it has none of them. SeveralPlaces: it has two or
-- more, or there may be more. OtherMissing: this segment of the module agrees with the program at no address.
abbrev pub IsReason : Program → Module → List ℕ → Bool → Why → Type 0
IsReason program m addresses more why.ManyPlaces = addresses ≡ []
IsReason program m addresses more why.SeveralPlaces = (0 < length addresses) × (length addresses ≡ 1 → more ≡ false → ⊥)
IsReason program m addresses more (why.OtherMissing other) = (0 < length addresses) × (IsInside program → (address : ℕ) → IsAt program m other address → ⊥)
IsReason program m addresses more _ = 0 < length addresses

-- A segment of a module and its places, in ascending order: it agrees at each of these addresses, and at no other one unless there may be more.
-- There is one, or there may be more.
pub record IsCandidate (program : Program) (most : ℕ) (m : Module) (c : Candidate) : Type 0 where
  pub rising : IsStrictlyIncreasing c.addresses.items
  pub agree : (address : ℕ) → Contains c.addresses.items address → IsAt program m c.segment address
  pub some : c.more ≡ false → 0 < length c.addresses.items
  pub more : c.more ≡ true → MayBeMore program most m c
  pub all : c.more ≡ false → IsInside program → (address : ℕ) → IsAt program m c.segment address → Contains c.addresses.items address
  pub why : IsReason program m c.addresses.items c.more c.why

-- The segments that may be in a program: each one of the module that is searched for and agrees anywhere is among them.
pub record AreCandidates (program : Program) (most : ℕ) (m : Module) (cs : List Candidate) : Type 0 where
  pub each : (c : Candidate) → Contains cs c → IsCandidate program most m c
  pub every : IsInside program → (segment address : ℕ) → IsSought m segment → IsAt program m segment address → (c : Candidate) × Contains cs c × (c.segment ≡ segment)

-- No segment of the module that is searched for agrees with the program at any address.
abbrev pub IsNowhere : Program → Module → Type 0
IsNowhere program m = IsInside program → (segment address : ℕ) → IsSought m segment → IsAt program m segment address → ⊥

-- A module with the verdict Found is in the program; one with Possible may be, at the places that are listed, of at least one segment; one with
-- NotThere is not, so far as it is searched for.
abbrev pub IsTold : Program → ℕ → Module → Verdict → Type 0
IsTold program most m (verdict.Found found) = IsHeld program m (box_value found)
IsTold program most m (verdict.Possible candidates) = (0 < length candidates.items) × AreCandidates program most m candidates.items
IsTold program most m verdict.NotThere = IsNowhere program m
