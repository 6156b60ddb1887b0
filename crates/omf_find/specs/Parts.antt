-- The modules that a link text has (this profile's rule): those that are found, at places where a link gives the program's bytes back.
use Rattle.std.specs.Prelude.{◌≡◌, ◌⊎◌, ⊤, ℕ, ◌+◌, List, [], ◌∷◌, ◌++◌, false, Option, Some, None, option_map, slice_get}
use Rattle.std.specs.Box.{box_value}
use Rattle.omf_frame.specs.Bytes.{is_one_of}
use Rattle.omf_check.specs.Module.{Module, recs_of}
use Rattle.omf_check.specs.Tables.{entry, segments}
use Rattle.omf_check.specs.declared.segment.SegInfo.{SegInfo}
use Rattle.omf_placement.specs.Placement.{Places}
use Rattle.omf_placement.specs.declared.frame.Placed.{Placed}
use Rattle.omf_finding.specs.Finding.{IsHeld}
use Rattle.omf_finding.specs.Found.{IsFound}
use Rattle.omf_finding.specs.declared.findings.Found.{Found}
use Rattle.omf_finding.specs.declared.findings.Verdict.{Verdict}
use Rattle.omf_finding.specs.declared.findings.Verdict.TheVariants as verdict
use Rattle.omf_finding.specs.declared.program.Program.{Program}
use Rattle.omf_find.specs.Room.{IsRoom}
use Rattle.omf_find.specs.declared.room.Room.{Room}
use Rattle.omf_find.specs.declared.parts.Part.{Part}
use Rattle.omf_find.specs.declared.parts.Parts.{Parts}

-- ---- addresses

-- Room for a segment of a module, in its frame.
pub record IsRoomFor (m : Module) (f : Found) (segment : ℕ) (r : Room) (a : ℕ) : Type 0 where
  pub place : Placed
  pub has_place : entry f.placement.segments segment ≡ Some place
  pub info : SegInfo
  pub has_info : entry (segments (recs_of m.bytes)) segment ≡ Some info
  pub room : IsRoom r place.frame.base info.length a

-- The address of a segment: that of the search, or of room for it.
abbrev pub IsAddress : Module → Found → Room → ℕ → ℕ → Type 0
IsAddress m f r segment a = (option_map (λ p. p.address) (entry f.placement.segments segment) ≡ Some a) ⊎ IsRoomFor m f segment r a

-- Those of segments, from a number on.
abbrev pub AreAddresses : Module → Found → Room → ℕ → List ℕ → Type 0
AreAddresses m f r segment [] = ⊤
AreAddresses m f r segment (a ∷ others) = IsAddress m f r segment a × AreAddresses m f r (segment + 1) others

-- ---- placements

-- Segments, from a number on, at the same places but for absent ones.
abbrev pub AreKept : List ℕ → ℕ → List Placed → List Placed → Type 0
AreKept absent k [] [] = ⊤
AreKept absent k (old ∷ olds) (new ∷ news) = (is_one_of absent k ≡ false → new ≡ old) × AreKept absent (k + 1) olds news
AreKept absent k _ _ = ⊥

-- A placement of a module that is found: that of the search, but for the segments that are absent. It reaches, and each byte of the others is the program's.
pub record IsPlaced (p : Program) (m : Module) (f : Found) (pl : Places) : Type 0 where
  pub found : IsFound (recs_of m.bytes) pl f.absent p.bytes.items p.base
  pub segments : AreKept f.absent 1 f.placement.segments pl.segments
  pub groups : pl.groups ≡ f.placement.groups
  pub externals : pl.externals ≡ f.placement.externals

-- A module with the verdict Found is there.
abbrev pub IsHeldIf : Program → Module → Verdict → Type 0
IsHeldIf p m (verdict.Found f) = IsHeld p m (box_value f)
IsHeldIf p m _ = ⊤

-- Such a placement; or none, but only if segments are absent.
abbrev pub IsPlacedIf : Program → Module → Found → Option Places → Type 0
IsPlacedIf p m f None = f.absent ≡ [] → ⊥
IsPlacedIf p m f (Some pl) = IsPlaced p m f pl

-- ---- modules

-- The text has the module at such a placement; without one it leaves the module out.
abbrev pub placed_of : ℕ → Option Places → List Part
placed_of n None = []
placed_of n (Some pl) = record { «module» = n; placement = pl } ∷ []

abbrev pub left_of : ℕ → Option Places → List ℕ
left_of n None = n ∷ []
left_of n (Some pl) = []

abbrev pub IsFoundPart : Program → ℕ → Module → Found → List Part → List ℕ → Type 0
IsFoundPart p n m f placed left = (o : Option Places) × IsPlacedIf p m f o × (placed ≡ placed_of n o) × (left ≡ left_of n o)

-- Of a module that is not found it has nothing.
abbrev pub IsPart : Program → ℕ → Module → Option Verdict → List Part → List ℕ → Type 0
IsPart p n m (Some (verdict.Found f)) placed left = IsFoundPart p n m (box_value f) placed left
IsPart p n m _ placed left = (placed ≡ []) × (left ≡ [])

-- Those of all modules, from a number on.
abbrev pub AreParts : Program → ℕ → List Module → List Verdict → List Part → List ℕ → Type 0
AreParts p n [] vs placed left = (placed ≡ []) × (left ≡ [])
AreParts p n (m ∷ ms) vs placed left = (one : List Part) × (others : List Part) × (one_left : List ℕ) × (others_left : List ℕ)
    × IsPart p n m (slice_get vs n) one one_left × AreParts p (n + 1) ms vs others others_left
    × (placed ≡ one ++ others) × (left ≡ one_left ++ others_left)

-- These are added.
abbrev pub Adds : Parts → Parts → List Part → List ℕ → Type 0
Adds old new placed left = (new.placed.items ≡ old.placed.items ++ placed) × (new.left_out.items ≡ old.left_out.items ++ left)
