-- Laws of the definitions, each the contract of a function of the same name.
use Rattle.std.specs.Prelude.{◌≡◌, ◌≢◌, ℕ, ◌+◌, ◌%◌, ◌≤◌, ◌<◌, List, ◌∷◌, ◌++◌, length, Bool, true, false, Result, Err}
use Rattle.omf_check.specs.declared.profile.Profile.{Profile}
use Rattle.omf_library.specs.declared.member.Member.{Member}
use Rattle.omf_library.specs.declared.fault.LibraryFault.{LibraryFault}
use Rattle.omf_library.specs.declared.fault.LibraryFault.TheVariants as fault
use Rattle.omf_library.specs.Library.{AreMembersIn, IsLibrary, IsLibraryFault, IsMember, page_size}

-- Bytes are a library with one list of members at most.
abbrev pub MembersAreUnique : Type 0
MembersAreUnique = (profile : Profile) (bytes : List ℕ) (ms ns : List Member) (end other : ℕ) → IsLibrary profile bytes ms end → IsLibrary profile bytes ns other
    → (ms ≡ ns) × (end ≡ other)

-- A member begins after the header at a multiple of the page size, has a byte, and ends before the F1H, which is one of
-- the bytes.
pub record LiesInside (profile : Profile) (bytes : List ℕ) (end : ℕ) (m : Member) : Type 0 where
  pub member : IsMember profile bytes m
  pub after : page_size bytes ≤ m.offset
  pub paged : m.offset % page_size bytes ≡ 0
  pub filled : 0 < m.length
  pub before : m.offset + m.length ≤ end
  pub inside : end < length bytes

abbrev pub MembersLieInside : Type 0
MembersLieInside = (profile : Profile) (bytes : List ℕ) (ms before after : List Member) (m : Member) (end : ℕ) → IsLibrary profile bytes ms end → ms ≡ before ++ m ∷ after
    → LiesInside profile bytes end m

-- Of two members the one that is listed first ends before the other begins.
abbrev pub MembersAreDisjoint : Type 0
MembersAreDisjoint = (profile : Profile) (bytes : List ℕ) (ms before between after : List Member) (m n : Member) (end : ℕ) → IsLibrary profile bytes ms end
    → ms ≡ before ++ m ∷ (between ++ n ∷ after) → m.offset + m.length ≤ n.offset

-- Bytes with a fault other than out of memory are no library.
abbrev pub FaultsExclude : Type 0
FaultsExclude = (profile : Profile) (bytes : List ℕ) (ms : List Member) (end : ℕ) (f : LibraryFault) → f ≢ fault.Memory → IsLibraryFault profile bytes f → IsLibrary profile bytes ms end → ⊥

-- Whether an answer is other than out of memory.
abbrev pub is_settled : Result (List Member) LibraryFault → Bool
is_settled (Err fault.Memory) = false
is_settled _ = true

-- Bytes have at most one answer, out of memory aside: their members, or why they are no library.
abbrev pub AnswersAreUnique : Type 0
AnswersAreUnique = (profile : Profile) (bytes : List ℕ) (one other : Result (List Member) LibraryFault) → is_settled one ≡ true → is_settled other ≡ true
    → AreMembersIn profile bytes one → AreMembersIn profile bytes other → one ≡ other
