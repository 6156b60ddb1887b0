-- When a module is sure by its bytes, as it is tested. Only private functions use these definitions.
use Rattle.std.specs.Prelude.{◌≡◌, ◌<◌, ◌==◌, ◌&&◌, ℕ, List, length, Bool, true, not, Contains, Option, Some, slice_get}
use Rattle.std.specs.List.{list_all}
use Rattle.omf_check.specs.Module.{Module, recs_of}
use Rattle.omf_placement.specs.declared.frame.Placed.{Placed}
use Rattle.omf_finding.specs.Chain.{Draft, draft_at, enough, present_at}
use Rattle.omf_finding.specs.Finding.{IsInside}
use Rattle.omf_finding.specs.Sure.{IsSureByBytes}
use Rattle.omf_finding.specs.Inner.Chaining.{has_joined}
use Rattle.omf_finding.specs.Inner.Singling.{AreSingles, has_key, single_with}
use Rattle.omf_finding.specs.declared.chaining.Tried.{Tried}
use Rattle.omf_finding.specs.declared.findings.Found.{Found}
use Rattle.omf_finding.specs.declared.program.Program.{Program}
use Rattle.omf_finding.specs.declared.shapes.Shape.{Shape}
use Rattle.omf_finding.specs.declared.singles.Single.{Single}

-- A segment is searched for, and agrees with the program nowhere.
abbrev pub is_nowhere : Shape → Bool
is_nowhere s = s.is_searched && ((length s.places.items == 0) && not s.more)

abbrev pub is_whole : List Shape → Bool
is_whole ss = list_all (λ s. not (is_nowhere s)) ss

-- A segment of a module with this number is at its only place, with enough closed bytes that vary, and has no rival.
pub record IsSureShape (t : Tried) (number : ℕ) (m : Module) (f : Found) (s : Shape) : Type 0 where
  pub single : Single
  pub place : Placed
  pub is : single_with number (enough t.least (recs_of m.bytes) s.segment) s ≡ Some single
  pub present : present_at f s.segment ≡ Some place
  pub there : place.address ≡ single.address
  pub alone : has_key t.singles.now.alone number s.segment ≡ true

-- One of these is such a segment, and none is nowhere.
abbrev pub HasSureShape : Tried → ℕ → Module → Found → List Shape → Type 0
HasSureShape t number m f ss = (is_whole ss ≡ true) × (s : Shape) × Contains ss s × IsSureShape t number m f s

-- The segments of the modules that are tried, without rivals.
abbrev pub HaveSure : Tried → Type 0
HaveSure t = AreSingles t.program.now t.least t.modules.now t.shapes.now t.singles.now.alone

-- The module with this number has joined, or no segment of it is sure by its bytes.
abbrev pub IsUnsure : Tried → ℕ → Module → Found → Type 0
IsUnsure t j m f = IsInside t.program.now → 1 < t.most → IsSureByBytes t.program.now t.least t.modules.now j m f → ⊥

-- Of the drafts none is left out that is sure by its bytes.
abbrev pub AreSureJoined : Program → ℕ → ℕ → List Module → List Draft → List Bool → Type 0
AreSureJoined program n most ms drafts marks =
    IsInside program → 1 < most → (j : ℕ) (m : Module) (f : Found) → slice_get ms j ≡ Some m → draft_at drafts j ≡ Some f → IsSureByBytes program n ms j m f → has_joined marks j ≡ true

abbrev pub AreAllSure : Tried → List Bool → Type 0
AreAllSure t marks = AreSureJoined t.program.now t.least t.most t.modules.now t.drafts.now marks
