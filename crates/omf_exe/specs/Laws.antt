-- Laws of the modules that a linker adds to a program, of its map, and of its externals, each the contract of a function of the same name.
use Rattle.std.specs.Prelude.{◌≡◌, ◌↔◌, ℕ, All, List, [], ◌∷◌, ◌++◌, filter_map, map, zip, Option, Some, None, Ok, Bool, true, false}
use Rattle.omf_image.specs.Limits.{profile_limits}
use Rattle.omf_check.specs.Module.{Module, typed_modules}
use Rattle.omf_check.specs.Sound.{ModuleHolds}
use Rattle.omf_records.specs.Values.{Rec}
use Rattle.omf_placement.specs.Derive.{PlacedModule, all_publics, publics, seen_publics}
-- computed: derived_is_taken of omf_placement.
use Rattle.omf_placement.specs.Inner.Derived.{external_place, given_place, of_name, one_public}
use Rattle.omf_placement.specs.Placement.{Places}
use Rattle.omf_placement.specs.declared.frame.Placed.{Placed}
use Rattle.omf_placement.specs.declared.several.given.Given.{Given}
use Rattle.omf_layout.specs.declared.own.homes.Home.{Home}
use Rattle.omf_layout.specs.Own.Claims.{all_claims}
use Rattle.omf_layout.specs.Own.Communals.{communals_of, is_communal}
use Rattle.omf_layout.specs.Own.Order.{has_claim, order_records}
use Rattle.omf_layout.specs.Several.Gathered.{of_name as claims_of}
use Rattle.omf_layout.specs.declared.several.portion.Portion.{Portion}
use Rattle.omf_output.specs.Exe.Laws.{AreLow, all_moved, derived_at}
use Rattle.omf_output.specs.Exe.Members.{Member, member_at}
use Rattle.omf_drafting.specs.Laws.{HasBases}
use Rattle.omf_combining.specs.Classes.{class_order_records}
use Rattle.omf_combining.specs.Stack.{more_records}
use Rattle.omf_exe.specs.Program.{AreMade, IsComOf, IsMapOf, IsProgramOf}
use Rattle.omf_map.specs.Far.{IsProgramMap}

-- A name is that of a communal of modules: a COMDEF has it, and no PUBDEF.
pub record IsCommunalOf (ms : List (List Rec)) (name : List ℕ) : Type 0 where
  pub defined : has_claim (all_claims ms) name ≡ true
  pub shared : is_communal (claims_of (all_claims ms) name) ≡ true

-- No public of these modules has the name.
abbrev pub HaveNone : List ℕ → List PlacedModule → Type 0
HaveNone name ms = filter_map (of_name name) (all_publics ms) ≡ []

-- One public of all modules has the name: one of this module. Each external of the name that is not local and has no given place is there.
pub record IsFoundIn (own : PlacedModule) (all : List PlacedModule) (name : List ℕ) : Type 0 where
  pub place : Placed
  pub its_own : filter_map (of_name name) (publics false own) ≡ place ∷ []
  pub only : filter_map (of_name name) (all_publics all) ≡ place ∷ []
  pub taken : (m : PlacedModule) (given : List Given) (j i : ℕ) → given_place given j i ≡ None
      → external_place (seen_publics all m false) given j i name ≡ one_public j i (place ∷ [])

-- With the module of communals after the modules, and others around them that do not define the name, the externals of a communal find the public of the module of communals.
abbrev pub CommunalsAreFound : Type 0
CommunalsAreFound = (home : Home) (ms : List (List Rec)) (pls : List Places) (added : List Rec) (pl : Places) (before after : List PlacedModule) (name : List ℕ)
    → communals_of home ms ≡ Some added → HasBases added pl → IsCommunalOf ms name → HaveNone name before → HaveNone name after
    → IsFoundIn (added, pl) (before ++ (zip ms pls ++ (added, pl) ∷ after)) name

-- The modules of an order and of a stack define no name that these modules define. So does the order that is made of these modules and more.
pub record DefineNoOther (ms : List (List Rec)) (name : List ℕ) : Type 0 where
  pub order : (more : List (List Rec)) (pl : Places) → HaveNone name ((order_records (ms ++ more), pl) ∷ [])
  pub classes : (classes : List (List ℕ)) (pl : Places) → HaveNone name ((class_order_records classes ms, pl) ∷ [])
  pub stack : (last : Option Portion) (size : ℕ) (pl : Places) → HaveNone name ((more_records ms last size, pl) ∷ [])

abbrev pub AddedDefineNewNames : Type 0
AddedDefineNewNames = (ms : List (List Rec)) (name : List ℕ) → has_claim (all_claims ms) name ≡ true → DefineNoOther ms name

-- A map shows the addresses of members of a program: it is that of their modules at the placements with which they are linked.
abbrev pub ShowsAddressesOf : List Module → List Member → List ℕ → Type 0
ShowsAddressesOf ms members text = IsProgramMap ms (map (λ m. m.places) members) text

-- So does a map of modules for each program of them, an .EXE or a .COM file, of the modules that it shows.
pub record ShowsAddresses (ms shown : List Module) (text : List ℕ) : Type 0 where
  pub of_exe : (most : ℕ) (bytes : List ℕ) (has_stack : Bool) (p : IsProgramOf most ms bytes has_stack) → ShowsAddressesOf shown p.members text
  pub of_com : (bytes : List ℕ) (p : IsComOf ms bytes) → ShowsAddressesOf shown p.members text

abbrev pub MapsShowPrograms : Type 0
MapsShowPrograms = (ms shown : List Module) (text : List ℕ) → IsMapOf ms shown text → ShowsAddresses ms shown text

-- The placements of members of a program, moved by k paragraphs.
abbrev pub placements_at : ℕ → List Member → List Places
placements_at k members = map (λ m. (member_at k m).places) members

-- Well-formed modules of a program, loaded at any paragraph: their externals are where they are derived at the modules' segments and groups moved by as many
-- paragraphs, if and only if each of these is below 2^32.
abbrev pub ExternalsAreLoaded : Type 0
ExternalsAreLoaded = (ms : List Module) (members : List Member) (made : AreMade ms members) (k : ℕ) → All (ModuleHolds profile_limits) (typed_modules ms)
    → (derived_at (typed_modules ms) (all_moved k made.movers made.settled.placed.places) ≡ Ok (placements_at k members)) ↔ AreLow (placements_at k members)
