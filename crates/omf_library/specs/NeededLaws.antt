-- Laws of members by need, each the contract of a function of the same name.
use Rattle.std.specs.Prelude.{◌≡◌, ◌↔◌, ℕ, ◌<◌, List, [], true, false, Some, map, slice_get, Contains}
use Rattle.omf_check.specs.Module.{Module}
use Rattle.omf_library.specs.Needed.{AreNeeded, Linkage, Offer, TakesPart, has_name, is_defined, linkage, member_of, offer}
use Rattle.omf_library.specs.declared.judged.LibraryMember.{LibraryMember}
use Rattle.omf_library.specs.declared.judged.LibraryMember.TheVariants as member
use Rattle.omf_library.specs.declared.judged.RefusedMember.{RefusedMember}

-- The members that a program needs are determined.
abbrev pub NeededAreUnique : Type 0
NeededAreUnique = (o : Offer) (one other : List ℕ) → AreNeeded o one → AreNeeded o other → one ≡ other

-- The member of a name: it defines the name, no member before it does, and no given module.
pub record IsFirst (o : Offer) (name : List ℕ) (n : ℕ) : Type 0 where
  pub member : Linkage
  pub here : slice_get o.members n ≡ Some member
  pub defines : has_name member.publics name ≡ true
  pub first : (i : ℕ) (m : Linkage) → i < n → slice_get o.members i ≡ Some m → has_name m.publics name ≡ false
  pub not_given : (m : Linkage) → Contains o.given m → has_name m.publics name ≡ false

abbrev pub MembersAreFirst : Type 0
MembersAreFirst = (o : Offer) (name : List ℕ) (n : ℕ) → (member_of o name ≡ Some n) ↔ IsFirst o name n

-- A name that a module which takes part needs, and no module that takes part defines, is defined by no member at all.
abbrev pub UndefinedAreNowhere : Type 0
UndefinedAreNowhere = (o : Offer) (numbers : List ℕ) (m : Linkage) (name : List ℕ) → AreNeeded o numbers → TakesPart o numbers m → Contains m.externals name
    → ((d : Linkage) → TakesPart o numbers d → has_name d.publics name ≡ false) → is_defined o.members name ≡ false

-- None of the members with these numbers is refused.
abbrev pub AreModules : List LibraryMember → List ℕ → Type 0
AreModules members numbers = (n : ℕ) (r : RefusedMember) → Contains numbers n → slice_get members n ≡ Some (member.Refused r) → ⊥

-- The same offer without the members that are refused: these define nothing.
abbrev pub module_linkage : LibraryMember → Linkage
module_linkage (member.Module m) = linkage m
module_linkage (member.Refused r) = record { publics = []; externals = [] }

abbrev pub offer_of_modules : List Module → List LibraryMember → Offer
offer_of_modules modules members = record { given = map linkage modules; members = map module_linkage members }

-- If no needed member is refused, the needed ones are those of the libraries without their refused members.
abbrev pub RefusedPlayNoPart : Type 0
RefusedPlayNoPart = (modules : List Module) (members : List LibraryMember) (numbers : List ℕ) → AreNeeded (offer modules members) numbers → AreModules members numbers
    → AreNeeded (offer_of_modules modules members) numbers
