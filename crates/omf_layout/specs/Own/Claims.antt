-- The names that the PUBDEF and COMDEF records of modules define (TIS OMF 1.1, "PUBDEF", "COMDEF").
use Rattle.std.specs.Prelude.{ℕ, Bool, true, false, List, [], map, flat_map, if◌then◌else◌}
use Rattle.std.specs.List.{list_any}
use Rattle.omf_frame.specs.Types.{is_local}
use Rattle.omf_records.specs.Values.{At, Rec, Contents, Publics, Communals, PublicItem, CommunalItem, CommunalSize, Near, Far}
use Rattle.omf_layout.specs.declared.own.claims.ClaimKind.{ClaimKind}
use Rattle.omf_layout.specs.declared.own.claims.ClaimKind.TheVariants as kinds
use Rattle.omf_layout.specs.Several.Portions.{Named}
use Rattle.omf_layout.specs.Wants.{room_of}

-- A name, as what it is defined, and the size of a communal in bytes; a public has size 0.
pub record Claim : Type 0 where
  pub name : List ℕ
  pub kind : ClaimKind
  pub size : ℕ

-- A communal is near or far.
abbrev pub kind_of : CommunalSize → ClaimKind
kind_of (Near n) = kinds.Near
kind_of (Far count size) = kinds.Far

abbrev pub claimed : List ℕ → ClaimKind → ℕ → Named Claim
claimed name kind size = (name, record { name = name; kind = kind; size = size })

abbrev pub public_claim : At PublicItem → Named Claim
public_claim q = claimed q.item.name kinds.Public 0

abbrev pub communal_claim : At CommunalItem → Named Claim
communal_claim c = claimed c.item.name (kind_of c.item.size) (room_of c.item.size)

-- The names of a PUBDEF and of a COMDEF. An LPUBDEF and an LCOMDEF define no name for other modules.
abbrev pub claims_in : Contents → List (Named Claim)
claims_in (Publics p) = map public_claim p.items
claims_in (Communals items) = map communal_claim items
claims_in _ = []

abbrev pub record_claims : ℕ → Contents → List (Named Claim)
record_claims kind c = if is_local kind then [] else claims_in c

-- Those of a module, and those of all modules, in order, each with its name.
abbrev pub module_claims : List Rec → List (Named Claim)
module_claims m = flat_map (λ r. record_claims r.kind r.contents) m

abbrev pub all_claims : List (List Rec) → List (Named Claim)
all_claims ms = flat_map module_claims ms

-- Whether a record is a COMDEF, and whether a module has one, or one of several modules.
abbrev pub holds_communals : Contents → Bool
holds_communals (Communals items) = true
holds_communals _ = false

abbrev pub is_comdef : ℕ → Contents → Bool
is_comdef kind c = if is_local kind then false else holds_communals c

abbrev pub has_comdef : List Rec → Bool
has_comdef m = list_any (λ r. is_comdef r.kind r.contents) m

abbrev pub have_comdefs : List (List Rec) → Bool
have_comdefs ms = list_any has_comdef ms
