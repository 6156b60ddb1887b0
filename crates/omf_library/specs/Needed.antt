-- Members by need: which members of the libraries a program takes. TIS OMF 1.1, appendix 2, has the dictionary, but not
-- which of several members is taken: what follows is this profile's rule.
use Rattle.std.specs.Prelude.{◌≡◌, ◌⊎◌, ℕ, zero, suc, ◌+◌, List, [], ◌∷◌, ◌++◌, map, flat_map, Bool, false, ◌||◌, ◌==◌, if◌then◌else◌, bytes_eq, Option, Some, None, option_map, slice_get, All, Contains}
use Rattle.std.specs.List.{enumerate_from}
use Rattle.std.specs.List.Sorted.{IsStrictlyIncreasing}
use Rattle.omf_frame.specs.Bytes.{is_one_of}
use Rattle.omf_frame.specs.Types.{is_local}
use Rattle.omf_records.specs.Values.{Rec, Contents, Comment}
use Rattle.omf_check.specs.Module.{Module, recs_of}
use Rattle.omf_placement.specs.Derive.{named_externals}
use Rattle.omf_placement.specs.Weak.{indices, paired}
use Rattle.omf_library.specs.Aliases.{aliases, substitutes}
use Rattle.omf_library.specs.LibraryMembers.{defined_publics, names_kept}
use Rattle.omf_library.specs.declared.judged.LibraryMember.{LibraryMember}
use Rattle.omf_library.specs.declared.judged.LibraryMember.TheVariants as member

-- The names that a module defines for others: those of its PUBDEFs, not of its LPUBDEFs (TIS OMF 1.1, "PUBDEF", "LPUBDEF").
abbrev pub public_names_of : ℕ → Contents → List (List ℕ)
public_names_of kind c = if is_local kind then [] else defined_publics c

abbrev pub public_names : List Rec → List (List ℕ)
public_names m = flat_map (λ r. public_names_of r.kind r.contents) m

-- The weak externals of a module, by their indices: the first of each pair in its comments of class A8H (TIS OMF 1.1, "COMENT", WKEXT). The second, the
-- default, is an external as any other. A comment of class A9H (LZEXT) has the same form; its externals are lazy, not weak.
abbrev pub weak_of : List ℕ → List ℕ
weak_of text = map (λ p. p.weak) (paired (indices text))

abbrev pub weak_in : Contents → List ℕ
weak_in (Comment byte class text) = if class == 0xA8 then weak_of text else []
weak_in _ = []

abbrev pub weak_indices : List Rec → List ℕ
weak_indices m = flat_map (λ r. weak_in r.contents) m

-- The names that a module needs: those of its externals that are neither local (LEXTDEF, LCOMDEF) nor weak. Externals are counted from 1,
-- in the order of all EXTDEFs, LEXTDEFs, COMDEFs and LCOMDEFs. That no member is looked for a weak one is what it is for ("COMENT", WKEXT).
abbrev pub name_unless : Bool → List ℕ → List (List ℕ)
name_unless left_out name = if left_out then [] else name ∷ []

abbrev pub needed_name : List ℕ → ℕ × (List ℕ × Bool) → List (List ℕ)
needed_name weak e = name_unless (e.1.1 || is_one_of weak e.0) e.1.0

abbrev pub needed_names : List Rec → List (List ℕ)
needed_names m = flat_map (needed_name (weak_indices m)) (enumerate_from 1 (named_externals m))

-- What counts of a module: the names that it defines for others, and those that it needs. An alias counts as defined, and its substitute as needed
-- (TIS OMF 1.1, "ALIAS"). Nothing else counts: no dictionary, and no comment but those of weak externals.
pub record Linkage : Type 0 where
  pub publics : List (List ℕ)
  pub externals : List (List ℕ)

abbrev pub linkage_of : List Rec → Linkage
linkage_of m = record { publics = public_names m ++ aliases m; externals = needed_names m ++ substitutes m }

abbrev pub linkage : Module → Linkage
linkage m = linkage_of (recs_of m.bytes)

-- A member that is refused defines its names, and needs none.
abbrev pub member_linkage : LibraryMember → Linkage
member_linkage (member.Module m) = linkage m
member_linkage (member.Refused r) = record { publics = names_kept r.publics.items; externals = [] }

-- The modules that are given, and the members of all libraries, in the order in which they are searched. A member has its
-- number in that order, from 0.
pub record Offer : Type 0 where
  pub given : List Linkage
  pub members : List Linkage

abbrev pub offer : List Module → List LibraryMember → Offer
offer modules members = record { given = map linkage modules; members = map member_linkage members }

-- A name is in a list, byte for byte.
abbrev pub has_name : List (List ℕ) → List ℕ → Bool
has_name [] name = false
has_name (x ∷ xs) name = bytes_eq x name || has_name xs name

-- Whether some module defines a name; the number of the first that does.
abbrev pub is_defined : List Linkage → List ℕ → Bool
is_defined [] name = false
is_defined (m ∷ ms) name = has_name m.publics name || is_defined ms name

abbrev pub definer : List Linkage → List ℕ → Option ℕ
definer [] name = None
definer (m ∷ ms) name = if has_name m.publics name then Some 0 else option_map (λ n. n + 1) (definer ms name)

-- The member that defines a name for the program: none if a given module defines it, else the first member that does.
abbrev pub member_of : Offer → List ℕ → Option ℕ
member_of o name = if is_defined o.given name then None else definer o.members name

-- A module needs a member: the one that defines a name that it needs.
abbrev pub Needs : Offer → Linkage → ℕ → Type 0
Needs o m n = (name : List ℕ) × Contains m.externals name × (member_of o name ≡ Some n)

-- A module takes part: it is given, or it is one of these members.
abbrev pub TakesPart : Offer → List ℕ → Linkage → Type 0
TakesPart o numbers m = Contains o.given m ⊎ ((n : ℕ) × Contains numbers n × (slice_get o.members n ≡ Some m))

-- These members are enough: they have each member that a module which takes part needs.
abbrev pub AreClosed : Offer → List ℕ → Type 0
AreClosed o numbers = (m : Linkage) (n : ℕ) → TakesPart o numbers m → Needs o m n → Contains numbers n

-- The members that the given modules need, with what they need in turn: the least that are enough. Each once, in order.
pub record AreNeeded (o : Offer) (numbers : List ℕ) : Type 0 where
  pub ascending : IsStrictlyIncreasing numbers
  pub closed : AreClosed o numbers
  pub least : (others : List ℕ) → AreClosed o others → All (Contains others) numbers

-- A given module needs a member; or one needs it that is at the end of such a chain, which has k members.
abbrev pub EndsChain : Offer → ℕ → ℕ → Type 0
EndsChain o zero n = (m : Linkage) × Contains o.given m × Needs o m n
EndsChain o (suc k) n = (before : ℕ) × (m : Linkage) × EndsChain o k before × (slice_get o.members before ≡ Some m) × Needs o m n

abbrev pub IsChained : Offer → ℕ → Type 0
IsChained o n = (k : ℕ) × EndsChain o k n
