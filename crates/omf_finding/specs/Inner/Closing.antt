-- The names that modules ask for, each with an address, and what of them other modules define. Only private functions use these definitions.
use Rattle.std.specs.Prelude.{◌≡◌, ◌⊎◌, ℕ, ◌+◌, ◌<◌, ◌==◌, ◌&&◌, ◌||◌, List, length, filter, Bool, true, false, not, Option, Some, None, bytes_eq, slice_get, if◌then◌else◌}
use Rattle.std.specs.BTreeSet.{BTreeSet, contains_by}
use Rattle.std.specs.List.{list_any}
use Rattle.std.specs.Ordering.{nat_cmp, ordering_then}
use Rattle.std.specs.declared.cmp.Ordering.{Ordering}
use denote.Ref.{Bor}
use Rattle.omf_frame.specs.Types.{is_local}
use Rattle.omf_names.specs.Names.{name_cmp}
use Rattle.omf_records.specs.Values.{At, Contents, PublicItem, Publics, Rec}
use Rattle.omf_check.specs.Module.{Module, recs_of}
use Rattle.omf_check.specs.Tables.{entry}
use Rattle.omf_placement.specs.declared.frame.Placed.{Placed}
use Rattle.omf_finding.specs.Chain.{Draft, IsStart, RefersTo, draft_at, present_at}
use Rattle.omf_finding.specs.Inner.Chaining.{IsKnown, RefersAt, found_by, has_joined, kept}
use Rattle.omf_finding.specs.Inner.Surely.{IsUnsure}
use Rattle.omf_finding.specs.declared.chaining.Tried.{Tried}
use Rattle.omf_finding.specs.declared.findings.Found.{Found}
use Rattle.omf_finding.specs.declared.program.Program.{Program}

-- ---- names at addresses

-- An address and a name, as a key.
abbrev pub Spot : Type 0
Spot = ℕ × Bor (List ℕ)

abbrev pub Spots : Type 0
Spots = BTreeSet Spot

abbrev pub spot_cmp : Spot → Spot → Ordering
spot_cmp x y = ordering_then (nat_cmp x.0 y.0) (name_cmp x.1.now y.1.now)

-- A set has a name at an address.
abbrev pub has_spot : Spots → List ℕ → ℕ → Bool
has_spot s name address = contains_by (λ (k : Spot). ordering_then (nat_cmp address k.0) (name_cmp name k.1.now)) s

-- A set has this name at this address in addition to those of another.
abbrev pub HasOneMore : Spots → Spots → List ℕ → ℕ → Type 0
HasOneMore old new name address = (cs : List ℕ) (b : ℕ) → has_spot new cs b ≡ (((b == address) && bytes_eq cs name) || has_spot old cs b)

-- A set has these names at their addresses in addition to those of another.
pub record Adds (old new : Spots) (R : List ℕ → ℕ → Type 0) : Type 0 where
  pub keeps : (cs : List ℕ) (b : ℕ) → has_spot old cs b ≡ true → has_spot new cs b ≡ true
  pub has : (cs : List ℕ) (b : ℕ) → R cs b → has_spot new cs b ≡ true
  pub only : (cs : List ℕ) (b : ℕ) → has_spot new cs b ≡ true → (has_spot old cs b ≡ true) ⊎ R cs b

-- One of the first n.
abbrev pub FirstOf : ℕ → (ℕ → List ℕ → ℕ → Type 0) → List ℕ → ℕ → Type 0
FirstOf n R cs b = (k : ℕ) × (k < n) × R k cs b

-- ---- what a module asks for

-- By this external, a module at a placement refers to a name at an address.
pub record RefersBy (m : List Rec) (f : Found) (external : ℕ) (name : List ℕ) (address : ℕ) : Type 0 where
  pub named : IsKnown m f external name
  pub place : Placed
  pub place_is : entry f.placement.externals external ≡ Some place
  pub address_is : place.address ≡ address

-- The module with this number has joined, and refers to a name at an address.
pub record AsksAt (ms : List Module) (drafts : List Draft) (marks : List Bool) (i : ℕ) (name : List ℕ) (address : ℕ) : Type 0 where
  pub m : Module
  pub f : Found
  pub module_is : slice_get ms i ≡ Some m
  pub found_is : found_by drafts marks i ≡ Some f
  pub refers : RefersTo (recs_of m.bytes) f name address

-- The names that those ask for that have joined.
pub record AreAsked (ms : List Module) (drafts : List Draft) (marks : List Bool) (s : Spots) : Type 0 where
  pub has : (i : ℕ) (name : List ℕ) (address : ℕ) → AsksAt ms drafts marks i name address → has_spot s name address ≡ true
  pub only : (name : List ℕ) (address : ℕ) → has_spot s name address ≡ true → (i : ℕ) × AsksAt ms drafts marks i name address

abbrev pub HaveAsked : Tried → List Bool → Spots → Type 0
HaveAsked t marks s = AreAsked t.modules.now t.drafts.now marks s

-- Each name of a set is asked for by one that has joined.
abbrev pub IsAskedOf : Tried → List Bool → Spots → Type 0
IsAskedOf t marks s = (name : List ℕ) (address : ℕ) → has_spot s name address ≡ true → (i : ℕ) × AsksAt t.modules.now t.drafts.now marks i name address

-- ---- what a module defines

-- A public of a segment at this address is asked for.
abbrev pub public_asked : Spots → ℕ → At PublicItem → Bool
public_asked s address p = has_spot s p.item.name (address + p.item.offset)

abbrev pub publics_asked : Spots → Option Placed → List (At PublicItem) → Bool
publics_asked s None ps = false
publics_asked s (Some place) ps = list_any (public_asked s place.address) ps

abbrev pub contents_asked : Spots → Found → Contents → Bool
contents_asked s f (Publics p) = publics_asked s (present_at f p.segment.item) p.items
contents_asked s f _ = false

abbrev pub record_asked : Spots → Found → Rec → Bool
record_asked s f r = if is_local r.kind then false else contents_asked s f r.contents

-- One of the publics of a module at its placement is asked for.
abbrev pub is_asked : Spots → Found → List Rec → Bool
is_asked s f m = list_any (record_asked s f) m

-- ---- the end

-- The drafts of those that have not joined.
abbrev pub unreferenced_by : List Draft → List Bool → ℕ → Option Found
unreferenced_by drafts marks i = kept (draft_at drafts i) (not (has_joined marks i))

-- How many have not joined.
abbrev pub left_of : List Bool → ℕ
left_of marks = length (filter not marks)

-- Nothing is due of the module with this number: it has joined, or has no draft, or its draft is not at the program's start, no name of a set is its own, and it is
-- not sure by its bytes.
abbrev pub IsIdle : Tried → List Bool → Spots → ℕ → Type 0
IsIdle t marks s j = (m : Module) (g : Found) → slice_get t.modules.now j ≡ Some m → draft_at t.drafts.now j ≡ Some g → has_joined marks j ≡ false → (IsStart t.program.now m g → ⊥) × (is_asked s g (recs_of m.bytes) ≡ false) × IsUnsure t j m g

-- Those that have joined are all: no other one is at the program's start, and none refers to another one.
pub record AreAllJoined (program : Program) (ms : List Module) (drafts : List Draft) (marks : List Bool) : Type 0 where
  pub started : (j : ℕ) (m : Module) (g : Found) → slice_get ms j ≡ Some m → draft_at drafts j ≡ Some g → IsStart program m g → has_joined marks j ≡ true
  pub followed : (i j : ℕ) → has_joined marks i ≡ true → RefersAt ms drafts i j → has_joined marks j ≡ true

abbrev pub AreAll : Tried → List Bool → Type 0
AreAll t marks = AreAllJoined t.program.now t.modules.now t.drafts.now marks
