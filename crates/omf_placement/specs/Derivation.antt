-- The place of each external, and the first external at fault, stated without computing them. The law derived_is_taken shows that the computed
-- placements (Inner/Derived) agree.
use Rattle.std.specs.Prelude.{◌≡◌, ◌≢◌, ◌⊎◌, ◌↔◌, ℕ, ◌<◌, ◌≤◌, ◌^◌, All, List, ◌∷◌, ◌++◌, length, Bool, IsSome, Result, Ok, Err, IsOk}
use Rattle.std.specs.List.{AllZip, enumerate_from}
use Rattle.omf_records.specs.Values.{Rec, Publics, PublicItems}
use Rattle.omf_image.specs.declared.limits.Limits.{Limits}
use Rattle.omf_check.specs.Sound.{ModuleHolds}
use Rattle.omf_check.specs.Tables.{segments, groups, externals}
use Rattle.omf_placement.specs.declared.several.fault.DeriveFault.{DeriveFault}
use Rattle.omf_placement.specs.declared.several.fault.DeriveFault.TheVariants as fault
use Rattle.omf_placement.specs.declared.several.given.Given.{Given}
use Rattle.omf_placement.specs.Derive.{PlacedModule, PlacedPublic, base_of, seen_publics, named_externals, place_in}
-- computed: derived_is_taken of omf_placement.
use Rattle.omf_placement.specs.Inner.Derived.{derived}
use Rattle.omf_placement.specs.declared.frame.Placed.{Placed}
use Rattle.omf_placement.specs.Placement.{Places}

-- An entry is for external i of module j; no entry is; this is the first entry that is.
abbrev pub IsFor : ℕ → ℕ → Given → Type 0
IsFor j i g = (g.module ≡ j) × (g.external ≡ i)

abbrev pub IsNotGiven : ℕ → ℕ → List Given → Type 0
IsNotGiven j i given = All (λ g. IsFor j i g → ⊥) given

pub record IsFirstGiven (j i : ℕ) (given : List Given) (g : Given) : Type 0 where
  pub before : List Given
  pub after : List Given
  pub all : given ≡ before ++ g ∷ after
  pub applies : IsFor j i g
  pub earlier : IsNotGiven j i before

-- No public has this name; only this one has it; two or more have it.
abbrev pub IsUnnamed : List ℕ → List PlacedPublic → Type 0
IsUnnamed name among = All (λ p. p.name ≢ name) among

pub record IsOnly (name : List ℕ) (among : List PlacedPublic) (p : PlacedPublic) : Type 0 where
  pub before : List PlacedPublic
  pub after : List PlacedPublic
  pub all : among ≡ before ++ p ∷ after
  pub named : p.name ≡ name
  pub none_before : IsUnnamed name before
  pub none_after : IsUnnamed name after

pub record AreSeveral (name : List ℕ) (among : List PlacedPublic) : Type 0 where
  pub before : List PlacedPublic
  pub first : PlacedPublic
  pub between : List PlacedPublic
  pub second : PlacedPublic
  pub after : List PlacedPublic
  pub all : among ≡ before ++ first ∷ (between ++ second ∷ after)
  pub first_named : first.name ≡ name
  pub second_named : second.name ≡ name

-- A place is that of the only public with a name, and is below 2^32.
pub record IsPublicPlace (name : List ℕ) (among : List PlacedPublic) (p : Placed) : Type 0 where
  pub source : PlacedPublic
  pub only : IsOnly name among source
  pub low : source.place.address < 2 ^ 32
  pub place : source.place ≡ p

-- A place is that of the first entry for an external.
pub record IsGivenPlace (j i : ℕ) (given : List Given) (p : Placed) : Type 0 where
  pub entry : Given
  pub first : IsFirstGiven j i given entry
  pub place : place_in entry ≡ p

-- The place of external i of module j, with this name: that of its first entry, or if it has none that of the only public with its name.
abbrev pub Takes : List PlacedPublic → List Given → ℕ → ℕ → List ℕ → Placed → Type 0
Takes among given j i name p = IsGivenPlace j i given p ⊎ (IsNotGiven j i given × IsPublicPlace name among p)

-- The only public with a name has an address of 2^32 or more.
pub record IsTooHigh (name : List ℕ) (among : List PlacedPublic) : Type 0 where
  pub source : PlacedPublic
  pub only : IsOnly name among source
  pub high : 2 ^ 32 ≤ source.place.address

-- The fault of external i of module j, with this name: it has no entry, and no public has its name, several have, or the only one has too high an address.
abbrev pub IsFaultOf : List PlacedPublic → ℕ → ℕ → List ℕ → DeriveFault → Type 0
IsFaultOf among j i name (fault.Undefined k n) = (k ≡ j) × (n ≡ i) × IsUnnamed name among
IsFaultOf among j i name (fault.Twice k n) = (k ≡ j) × (n ≡ i) × AreSeveral name among
IsFaultOf among j i name (fault.TooHigh k n) = (k ≡ j) × (n ≡ i) × IsTooHigh name among
IsFaultOf among j i name fault.Memory = ⊥

abbrev pub Fails : List PlacedPublic → List Given → ℕ → ℕ → List ℕ → DeriveFault → Type 0
Fails among given j i name e = IsNotGiven j i given × IsFaultOf among j i name e

-- The externals of a module: the index of each, from 1, its name, and whether it is local.
abbrev pub External : Type 0
External = ℕ × (List ℕ × Bool)

abbrev pub numbered : PlacedModule → List External
numbered m = enumerate_from 1 (named_externals m.0)

-- The derived placement of a module with its number: the segments and groups of its placement, and the place of each external, in order.
pub record IsPlacement (ms : List PlacedModule) (given : List Given) (m : ℕ × PlacedModule) (pl : Places) : Type 0 where
  pub segments : pl.segments ≡ m.1.1.segments
  pub groups : pl.groups ≡ m.1.1.groups
  pub externals : AllZip (λ e p. Takes (seen_publics ms m.1 e.1.1) given m.0 e.0 e.1.0 p) (numbered m.1) pl.externals

abbrev pub AreDerived : List PlacedModule → List Given → List Places → Type 0
AreDerived ms given pls = AllZip (IsPlacement ms given) (enumerate_from 0 ms) pls

-- Each of these externals of module j has a place, by the publics that it can refer to.
abbrev pub AllTake : (Bool → List PlacedPublic) → List Given → ℕ → List External → Type 0
AllTake among given j es = All (λ e. (p : Placed) × Takes (among e.1.1) given j e.0 e.1.0 p) es

-- An external has a fault, and each before it in its module has a place.
pub record IsFirstIn (among : Bool → List PlacedPublic) (given : List Given) (j : ℕ) (es : List External) (f : DeriveFault) : Type 0 where
  pub before : List External
  pub external : External
  pub after : List External
  pub all : es ≡ before ++ external ∷ after
  pub earlier : AllTake among given j before
  pub fails : Fails (among external.1.1) given j external.0 external.1.0 f

-- The first fault: that of the first external at fault of the first module that has one.
pub record IsFirstAmong (all : List PlacedModule) (given : List Given) (ms : List (ℕ × PlacedModule)) (f : DeriveFault) : Type 0 where
  pub before : List (ℕ × PlacedModule)
  pub «module» : ℕ × PlacedModule
  pub after : List (ℕ × PlacedModule)
  pub parts : ms ≡ before ++ «module» ∷ after
  pub earlier : All (λ m. AllTake (seen_publics all m.1) given m.0 (numbered m.1)) before
  pub fault : IsFirstIn (seen_publics all «module».1) given «module».0 (numbered «module».1) f

abbrev pub IsFirstFault : List PlacedModule → List Given → DeriveFault → Type 0
IsFirstFault ms given f = IsFirstAmong ms given (enumerate_from 0 ms) f

-- The computed placements and faults are those defined above.
pub record DerivedIsTaken (ms : List PlacedModule) (given : List Given) : Type 0 where
  pub placements : (pls : List Places) → (derived ms given ≡ Ok pls) ↔ AreDerived ms given pls
  pub fault : (f : DeriveFault) → (derived ms given ≡ Err f) ↔ IsFirstFault ms given f

-- The placement of a module has an entry for each of its segments and groups, and no other.
pub record IsPlaceOf (m : List Rec) (pl : Places) : Type 0 where
  pub segments : length pl.segments ≡ length (segments m)
  pub groups : length pl.groups ≡ length (groups m)

-- At such a placement each PUBDEF and LPUBDEF of a well-formed module has a base.
abbrev pub BasesAreFound : Type 0
BasesAreFound = (limits : Limits) (m : List Rec) (pl : Places) → ModuleHolds limits m → IsPlaceOf m pl
    → (before after : List Rec) (r : Rec) (p : PublicItems) → m ≡ before ++ r ∷ after → r.contents ≡ Publics p
    → IsSome (base_of pl p.group.item p.segment.item p.frame)

-- A derived placement keeps the segments and groups of its module's placement, and has an entry for each external.
pub record KeepsPlace (m : PlacedModule) (pl : Places) : Type 0 where
  pub segments : pl.segments ≡ m.1.segments
  pub groups : pl.groups ≡ m.1.groups
  pub external_count : length pl.externals ≡ length (externals m.0)

abbrev pub DerivedFit : Type 0
DerivedFit = (ms : List PlacedModule) (given : List Given) (pls : List Places) → derived ms given ≡ Ok pls → AllZip KeepsPlace ms pls

-- A result is the defined one: exactly these placements, or exactly this fault. Memory is returned only where there is no other fault.
abbrev pub IsDerived : Result (List Places) DeriveFault → Result (List Places) DeriveFault → Type 0
IsDerived r (Ok pls) = r ≡ Ok pls
IsDerived r (Err f) = ((f ≡ fault.Memory) × IsOk r) ⊎ (r ≡ Err f)
