-- Which modules are found (this profile's rule): those that a chain of references joins to a module that is sure by itself. A module is in question at one
-- placement, at which it is in the program; no definition fixes which one. Found are all modules in question that are at the program's start, and with a
-- module that is found all modules in question to which it refers. One that is sure by its bytes alone need not be found: it is not if other segments rival its
-- bytes, or if another segment of its own is nowhere. No order of the modules is in it.
use Rattle.std.specs.Prelude.{◌≡◌, ◌⊎◌, ℕ, zero, suc, ◌+◌, ◌*◌, ◌/◌, ◌≤◌, List, length, Bool, true, false, ◌&&◌, ◌==◌, bytes_eq, Option, Some, None, option_and_then, option_map, slice_get, IfSome, if◌then◌else◌}
use Rattle.std.specs.Box.{box_value}
use Rattle.std.specs.Global.{Box}
use Rattle.std.specs.List.{list_any}
use Rattle.omf_frame.specs.Bytes.{is_one_of}
use Rattle.omf_frame.specs.Types.{is_local}
use Rattle.omf_records.specs.Values.{At, Contents, PublicItem, Publics, Rec}
use Rattle.omf_check.specs.Classes.{is_code_name}
use Rattle.omf_check.specs.Module.{Module, recs_of}
use Rattle.omf_check.specs.Tables.{entry, externals, locals, names, segments}
use Rattle.omf_image.specs.Limits.{profile_limits}
use Rattle.omf_placement.specs.declared.frame.Placed.{Placed}
use Rattle.omf_reloc.specs.Image.{start}
use Rattle.omf_finding.specs.Finding.{IsAt, IsHeld, IsInside}
use Rattle.omf_finding.specs.Near.{AreClosed}
use Rattle.omf_finding.specs.Pattern.{pattern}
use Rattle.omf_finding.specs.declared.closed.ClosedByte.{ClosedByte}
use Rattle.omf_finding.specs.declared.findings.Found.{Found}
use Rattle.omf_finding.specs.declared.findings.Verdict.{Verdict}
use Rattle.omf_finding.specs.declared.findings.Verdict.TheVariants as verdict
use Rattle.omf_finding.specs.declared.program.Program.{Program}

-- ---- sure by themselves

-- The place of a segment that is not absent.
abbrev pub present_at : Found → ℕ → Option Placed
present_at f segment = if is_one_of f.absent segment then None else entry f.placement.segments segment

-- A segment is of code if its class is.
abbrev pub is_code : List Rec → ℕ → Bool
is_code m segment = is_code_name (option_and_then (λ s. entry (names m) s.class) (entry (segments m) segment))

-- How many closed bytes are enough, where n are of data: half as many of code, since code differs more.
abbrev pub enough : ℕ → List Rec → ℕ → ℕ
enough n m segment = if is_code m segment then n / 2 else n

-- A segment with enough closed bytes, which agrees with the program at its place and nowhere else.
pub record IsAlone (program : Program) (n : ℕ) (m : Module) (f : Found) : Type 0 where
  pub segment : ℕ
  pub place : Placed
  pub present : present_at f segment ≡ Some place
  pub bytes : List ClosedByte
  pub closed : AreClosed (pattern profile_limits (recs_of m.bytes) segment) bytes
  pub many : enough n (recs_of m.bytes) segment ≤ length bytes
  pub there : IsAt program m segment place.address
  pub only : IsInside program → (other : ℕ) → IsAt program m segment other → other ≡ place.address

-- The address of a selector and an offset (real mode).
abbrev pub address_of : ℕ × ℕ → ℕ
address_of pointer = 16 * pointer.0 + pointer.1

-- The module's start is the program's: its MODEND names the address of CS:IP.
pub record IsStart (program : Program) (m : Module) (f : Found) : Type 0 where
  pub own : ℕ × ℕ
  pub given : ℕ × ℕ
  pub own_is : start f.placement (recs_of m.bytes) ≡ Some own
  pub given_is : program.start ≡ Some given
  pub same : address_of own ≡ address_of given

abbrev pub IsSure : Program → ℕ → Module → Found → Type 0
IsSure program n m f = IsStart program m f ⊎ IsAlone program n m f

-- ---- references

-- A module defines a name for others at an offset of a segment, by a PUBDEF.
abbrev pub is_public : List ℕ → ℕ → At PublicItem → Bool
is_public name offset p = bytes_eq p.item.name name && (p.item.offset == offset)

abbrev pub contents_define : List ℕ → ℕ → ℕ → Contents → Bool
contents_define name segment offset (Publics p) = if p.segment.item == segment then list_any (is_public name offset) p.items else false
contents_define name segment offset _ = false

abbrev pub record_defines : List ℕ → ℕ → ℕ → Rec → Bool
record_defines name segment offset r = if is_local r.kind then false else contents_define name segment offset r.contents

abbrev pub defines : List ℕ → ℕ → ℕ → List Rec → Bool
defines name segment offset m = list_any (record_defines name segment offset) m

-- A module at a placement refers to a name at an address: an external that is not local, of which something shows where it is.
pub record RefersTo (m : List Rec) (f : Found) (name : List ℕ) (address : ℕ) : Type 0 where
  pub external : ℕ
  pub name_is : entry (externals m) external ≡ Some name
  pub shared : entry (locals m) external ≡ Some false
  pub known : is_one_of f.unknown external ≡ false
  pub place : Placed
  pub place_is : entry f.placement.externals external ≡ Some place
  pub address_is : place.address ≡ address

-- A module at a placement refers to another one at its placement: to the address of one of its publics, by its name.
pub record Refers (m : List Rec) (f : Found) (other : List Rec) (g : Found) : Type 0 where
  pub name : List ℕ
  pub segment : ℕ
  pub offset : ℕ
  pub place : Placed
  pub refers : RefersTo m f name (place.address + offset)
  pub defined : defines name segment offset other ≡ true
  pub present : present_at g segment ≡ Some place

-- ---- chains

-- The module with this number, from 0, at its placement.
pub record Stands (ms : List Module) (at : ℕ → Option Found) (i : ℕ) (m : Module) (f : Found) : Type 0 where
  pub module_is : slice_get ms i ≡ Some m
  pub found_is : at i ≡ Some f

-- A module is at the end of a chain of k references; the first one is sure.
abbrev pub EndsChain : Program → ℕ → List Module → (ℕ → Option Found) → ℕ → ℕ → Type 0
EndsChain program n ms at zero i = (m : Module) × (f : Found) × Stands ms at i m f × IsSure program n m f
EndsChain program n ms at (suc k) i =
    (before : ℕ) × (m : Module) × (f : Found) × (other : Module) × (g : Found) × EndsChain program n ms at k before × Stands ms at before m f × Stands ms at i other g × Refers (recs_of m.bytes) f (recs_of other.bytes) g

abbrev pub IsChained : Program → ℕ → List Module → (ℕ → Option Found) → ℕ → Type 0
IsChained program n ms at i = (k : ℕ) × EndsChain program n ms at k i

-- The placement of a module that is found.
abbrev pub found_in : Verdict → Option Found
found_in (verdict.Found f) = Some (box_value f)
found_in _ = None

abbrev pub found_with : Option Verdict → Option Found
found_with None = None
found_with (Some v) = found_in v

abbrev pub found_at : List Verdict → ℕ → Option Found
found_at vs i = found_with (slice_get vs i)

-- Each module that is found is at the end of such a chain of modules that are found.
abbrev pub AreChained : Program → ℕ → List Module → List Verdict → Type 0
AreChained program n ms vs = (i : ℕ) (f : Found) → found_at vs i ≡ Some f → IsChained program n ms (found_at vs) i

-- ---- all of them

-- A draft of a module is a placement at which it is in the program, or none.
abbrev pub Draft : Type 0
Draft = Option (Box Found)

abbrev pub IsDraft : Program → Module → Draft → Type 0
IsDraft program m draft = IfSome draft (λ f. IsHeld program m (box_value f))

-- It is the placement at which the module was tried, exactly if the module is in the program there.
abbrev pub IsDraftOf : Program → Module → Draft → Draft → Type 0
IsDraftOf program m None draft = draft ≡ None
IsDraftOf program m (Some f) None = IsHeld program m (box_value f) → ⊥
IsDraftOf program m (Some f) (Some g) = (g ≡ f) × IsHeld program m (box_value f)

abbrev pub draft_in : Option Draft → Option Found
draft_in None = None
draft_in (Some draft) = option_map box_value draft

-- The draft of the module with this number.
abbrev pub draft_at : List Draft → ℕ → Option Found
draft_at drafts i = draft_in (slice_get drafts i)

-- Of all modules in question these are found. The others are at these placements in the program, but none of them is at the program's start, and no module that
-- is found refers to one of them.
pub record AreAllFound (program : Program) (ms : List Module) (vs : List Verdict) (unreferenced : List Draft) : Type 0 where
  pub apart : (i : ℕ) (f : Found) → found_at vs i ≡ Some f → draft_at unreferenced i ≡ None
  pub started : (i : ℕ) (m : Module) (f : Found) → Stands ms (draft_at unreferenced) i m f → IsStart program m f → ⊥
  pub followed : (i j : ℕ) (m : Module) (f : Found) (other : Module) (g : Found) → Stands ms (found_at vs) i m f → Stands ms (draft_at unreferenced) j other g → Refers (recs_of m.bytes) f (recs_of other.bytes) g → ⊥
