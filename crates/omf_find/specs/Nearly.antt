-- The segments that are shown as near (this profile's rule), and the public before a place (TIS OMF 1.1, "PUBDEF": an offset in a segment).
use Rattle.std.specs.Prelude.{◌≡◌, ◌<◌, ◌≤◌, ◌-◌, ◌+◌, ◌==◌, ℕ, List, [], ◌∷◌, ◌++◌, All, Contains, IsPermutation, flat_map, length, map, nat_le, Bool, true, false, Option, Some, None, if◌then◌else◌}
use Rattle.std.specs.List.{AllZip, filter}
use Rattle.std.specs.List.Sorted.{IsNonDecreasingBy}
use Rattle.std.specs.Global.{Vec}
use Rattle.omf_frame.specs.Types.{is_local}
use Rattle.omf_check.specs.Module.{Module}
use Rattle.omf_records.specs.Values.{At, Contents, PublicItem, Publics, Rec}
use Rattle.omf_finding.specs.Near.{HasNear}
use Rattle.omf_finding.specs.declared.nearing.Near.{Near}
use Rattle.omf_finding.specs.declared.program.Program.{Program}
use Rattle.omf_find.specs.declared.near.Nearly.{Nearly}
use Rattle.omf_find.specs.declared.near.Wanted.{Wanted}

-- ---- segments

-- Those of a module of which enough closed bytes agree, with the number of the module.
abbrev pub is_wanted : Wanted → Near → Bool
is_wanted w n = nat_le w.least (n.closed - length n.differences.items)

abbrev pub with_number : ℕ → Near → ℕ × Near
with_number number n = (number, n)

abbrev pub wanted_of : Wanted → ℕ → List Near → List (ℕ × Near)
wanted_of w number ns = map (with_number number) (filter (is_wanted w) ns)

-- Those of all modules, from a number on.
abbrev pub all_wanted : Wanted → ℕ → List (Vec Near) → List (ℕ × Near)
all_wanted w number [] = []
all_wanted w number (ns ∷ others) = wanted_of w number ns.items ++ all_wanted w (number + 1) others

abbrev pub seen : Nearly → ℕ × Near
seen y = (y.«module», y.near)

-- They are shown in ascending order of address.
pub record AreNearly (p : Program) (ms : List Module) (w : Wanted) (ys : List Nearly) : Type 0 where
  pub nears : List (Vec Near)
  pub are_near : AllZip (HasNear p w.most) ms nears
  pub same : IsPermutation (all_wanted w 0 nears) (map seen ys)
  pub order : IsNonDecreasingBy (λ y. y.near.address) ys

abbrev pub AreNearlyIf : Option ℕ → ℕ → Program → List Module → List Nearly → Type 0
AreNearlyIf None least p ms ys = ys ≡ []
AreNearlyIf (Some most) least p ms ys = AreNearly p ms (record { most = most; least = least }) ys

-- ---- publics

-- The offset and the name of a public; those of a segment in a PUBDEF, or in an LPUBDEF.
abbrev pub place : At PublicItem → ℕ × List ℕ
place q = (q.item.offset, q.item.name)

abbrev pub places_of : Option (List (At PublicItem)) → List (ℕ × List ℕ)
places_of None = []
places_of (Some qs) = map place qs

abbrev pub contents_publics : ℕ → Contents → List (ℕ × List ℕ)
contents_publics segment (Publics p) = if p.segment.item == segment then map place p.items else []
contents_publics segment _ = []

abbrev pub record_publics : Bool → ℕ → ℕ → Contents → List (ℕ × List ℕ)
record_publics true segment kind c = if is_local kind then contents_publics segment c else []
record_publics false segment kind c = if is_local kind then [] else contents_publics segment c

abbrev pub publics_of : ℕ → List Rec → List (ℕ × List ℕ)
publics_of segment m = flat_map (λ r. contents_publics segment r.contents) m

-- One of these at or before an offset, such that no other is between; none if all are after it.
abbrev pub IsBefore : ℕ → List (ℕ × List ℕ) → Option (ℕ × List ℕ) → Type 0
IsBefore offset ps None = All (λ p. offset < p.0) ps
IsBefore offset ps (Some b) = Contains ps b × (b.0 ≤ offset) × All (λ p. p.0 ≤ offset → p.0 ≤ b.0) ps
