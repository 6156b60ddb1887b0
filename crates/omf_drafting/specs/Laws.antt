-- Laws of drafts, each the contract of a function of the same name.
use Rattle.std.specs.Prelude.{◌≡◌, ◌<◌, ◌^◌, ⊤, ℕ, Bool, List, [], ◌∷◌, length, map, zip, All, Some, IsSome}
use Rattle.std.specs.List.{AllZip}
use Rattle.omf_records.specs.Values.{Rec, Contents, Publics}
use Rattle.omf_placement.specs.Placement.{Places}
use Rattle.omf_placement.specs.Derive.{PlacedPublic, base_of, seen_publics}
use Rattle.omf_layout.specs.Layout.{Laid}
use Rattle.omf_layout.specs.Reading.{AreShort}
use Rattle.omf_layout.specs.declared.options.Options.{Options}
use Rattle.omf_layout.specs.Several.Laws.{PlacedLieApart}
use Rattle.omf_layout.specs.Several.Laying.{laid}
use Rattle.omf_layout.specs.Several.Placing.{arranged_places}
use Rattle.omf_drafting.specs.Fit.{FitModules}
use Rattle.omf_externals.specs.Names.{seen_names}
use Rattle.omf_drafting.specs.Reading.{GivesPlaces, HasFew, IsReadBack}
use Rattle.omf_drafting.specs.Text.{link_text}

-- The draft of modules, read back, gives each of them its places, if all numbers are short enough for a text.
abbrev pub DraftsAreRead : Type 0
DraftsAreRead = (o : Options) (ms : List (List Rec)) (l : Laid (List Places)) → arranged_places o ms ≡ Some l → length ms < 2 ^ 32 → All HasFew ms → All AreShort l.what → IsReadBack ms l.what (link_text o.frames ms l.what)

-- A draft of modules whose numbers are short enough.
pub record IsDraft (o : Options) (ms : List (List Rec)) (l : Laid (List Places)) : Type 0 where
  pub is : arranged_places o ms ≡ Some l
  pub modules : length ms < 2 ^ 32
  pub entries : All HasFew ms
  pub short : All AreShort l.what

-- Its text gives the modules places that fit them, and do not overlap.
abbrev pub DraftsFit : Type 0
DraftsFit = (o : Options) (ms : List (List Rec)) (l : Laid (List Places)) (pls : List Places) → IsDraft o ms l → GivesPlaces ms (link_text o.frames ms l.what) pls → FitModules ms pls

abbrev pub DraftsLieApart : Type 0
DraftsLieApart = (o : Options) (ms : List (List Rec)) (l : Laid (List Places)) (pls : List Places) → IsDraft o ms l → GivesPlaces ms (link_text o.frames ms l.what) pls → PlacedLieApart o ms (laid pls l.free)

-- Each PUBDEF and LPUBDEF of a module has a base at its placement: so it is for a well-formed module and exactly its entries, by the law bases_are_found.
abbrev pub HasBase : Places → Contents → Type 0
HasBase pl (Publics p) = IsSome (base_of pl p.group.item p.segment.item p.frame)
HasBase pl _ = ⊤

abbrev pub HasBases : List Rec → Places → Type 0
HasBases [] pl = ⊤
HasBases (r ∷ m) pl = HasBase pl r.contents × HasBases m pl

-- The names among which a draft looks for its externals are those of the publics among which `derive` looks, whatever the placements.
abbrev pub name_of : PlacedPublic → List ℕ
name_of p = p.name

abbrev pub DraftsLookAmongPublics : Type 0
DraftsLookAmongPublics = (ms : List (List Rec)) (pls : List Places) (m : List Rec) (pl : Places) (local : Bool) → AllZip HasBases ms pls → HasBases m pl
    → map name_of (seen_publics (zip ms pls) (m, pl) local) ≡ seen_names ms m local
