-- Libraries that are made: their members are the modules that were given, and both searches find each name.
use Rattle.std.specs.Prelude.{◌≡◌, ◌≢◌, ◌⊎◌, ⊤, ℕ, ◌+◌, ◌*◌, ◌/◌, ◌%◌, ◌<◌, ◌≤◌, ◌==◌, if◌then◌else◌, Bool, true, List, [], ◌∷◌, length, drop, slice_get, slice_index, take, Option, Some, MatchOption}
use Rattle.std.specs.Borrow.{Bor}
use Rattle.std.specs.Int.{div_ceil}
use Rattle.std.specs.Slice.{IsItemAt}
use Rattle.omf_check.specs.declared.profile.Profile.{Profile}
use Rattle.omf_frame.specs.declared.fault.Place.{Place}
use Rattle.omf_frame.specs.declared.fault.Reason.{Reason}
use Rattle.omf_library.specs.Dictionary.{IsFoundAfter, block_count, block_of, block_size, dictionary_at, is_case_sensitive, is_inside, is_same_name, name_at, page_at}
use Rattle.omf_library.specs.Hash.{buckets}
use Rattle.omf_library.specs.Library.{header_of, is_page_size, page_size, word_at}
use Rattle.omf_making.specs.Names.{is_strong}
use Rattle.omf_making.specs.Taken.{IsTaken, IsTakenLibrary, IsUntaken}
use Rattle.omf_making.specs.declared.making.MakeFault.{MakeFault}
use Rattle.omf_making.specs.declared.making.MakeFault.TheVariants as fault
use Rattle.omf_making.specs.declared.making.Opened.{Opened as CodeOpened}
use Rattle.omf_making.specs.declared.making.Part.{Part}
use Rattle.omf_making.specs.declared.names.Defined.{Defined}
use Rattle.omf_making.specs.declared.names.Kind.{Kind}
use Rattle.omf_making.specs.declared.names.Kind.TheVariants as kind
use Rattle.omf_library.specs.declared.member.Member.{Member}
use Rattle.omf_library.specs.declared.search.Rule.{Rule}
use Rattle.omf_library.specs.declared.search.Rule.TheVariants as rule
use Rattle.omf_making.specs.declared.taken.Taken.{Taken}

-- A search finds a name, with this page.
abbrev pub IsFoundBy : Rule → Bool → List ℕ → List ℕ → ℕ → Type 0
IsFoundBy rule sensitive dictionary name page = (k : ℕ) × IsFoundAfter rule sensitive dictionary name k page

-- Both searches find a name, with this page.
pub record IsFoundByBoth (sensitive : Bool) (dictionary name : List ℕ) (page : ℕ) : Type 0 where
  pub restart : IsFoundBy rule.Restart sensitive dictionary name page
  pub keep : IsFoundBy rule.Keep sensitive dictionary name page

-- One of the names is this one.
abbrev pub HasName : Bool → List Defined → List ℕ → Type 0
HasName sensitive [] name = ⊥
HasName sensitive (d ∷ ds) name = (is_same_name sensitive d.name.items name ≡ true) ⊎ HasName sensitive ds name

-- One of the names is this one, and may be defined once only.
abbrev pub HasStrong : Bool → List Defined → List ℕ → Type 0
HasStrong sensitive [] name = ⊥
HasStrong sensitive (d ∷ ds) name = ((is_strong d.kind ≡ true) × (is_same_name sensitive d.name.items name ≡ true)) ⊎ HasStrong sensitive ds name

-- What is read of a library: its bytes, its page size, its dictionary, its members; and the modules that were given.
pub record Opened : Type 0 where
  pub bytes : List ℕ
  pub page : ℕ
  pub is_case_sensitive : Bool
  pub dictionary : List ℕ
  pub members : List Member
  pub parts : List Part

abbrev pub opened_seen : CodeOpened → Opened
opened_seen o = record { bytes = o.bytes.now; page = o.page; is_case_sensitive = o.dictionary.is_case_sensitive; dictionary = o.dictionary.bytes.now; members = o.members.now; parts = o.parts.now }

-- A module that begins at a page defines a name. The members are the modules, in order.
abbrev pub IsDefinedAt : Opened → List Member → List Part → List ℕ → ℕ → Type 0
IsDefinedAt o [] parts name page = ⊥
IsDefinedAt o (m ∷ ms) [] name page = ⊥
IsDefinedAt o (m ∷ ms) (part ∷ parts) name page = ((m.offset / o.page ≡ page) × HasName o.is_case_sensitive part.names.items name) ⊎ IsDefinedAt o ms parts name page

-- Both searches find a name that several members may define, with the page of one that does.
pub record IsSharedEntered (o : Opened) (name : List ℕ) : Type 0 where
  pub page : ℕ
  pub found : IsFoundByBoth o.is_case_sensitive o.dictionary name page
  pub defined : IsDefinedAt o o.members o.parts name page

-- Both searches find a name that the member at a page defines: a public and an import with this page.
abbrev pub IsEntered : Opened → ℕ → Kind → List ℕ → Type 0
IsEntered o page kind.Public name = IsFoundByBoth o.is_case_sensitive o.dictionary name page
IsEntered o page kind.Import name = IsFoundByBoth o.is_case_sensitive o.dictionary name page
IsEntered o page kind.Comdat name = IsSharedEntered o name
IsEntered o page kind.Communal name = IsSharedEntered o name
IsEntered o page kind.Alias name = IsSharedEntered o name

abbrev pub AreEntered : Opened → ℕ → List Defined → Type 0
AreEntered o page [] = ⊤
AreEntered o page (d ∷ ds) = IsEntered o page d.kind d.name.items × AreEntered o page ds

-- A member is a module that was given: it has its bytes, and both searches find its names.
pub record IsPart (o : Opened) (m : Member) (part : Part) : Type 0 where
  pub same : take m.length (drop m.offset o.bytes) ≡ part.bytes.items
  pub found : AreEntered o (m.offset / o.page) part.names.items

-- The members are the modules that were given, in order.
abbrev pub AreParts : Opened → List Member → List Part → Type 0
AreParts o [] [] = ⊤
AreParts o [] (part ∷ parts) = ⊥
AreParts o (m ∷ ms) [] = ⊥
AreParts o (m ∷ ms) (part ∷ parts) = IsPart o m part × AreParts o ms parts

-- Half the offset of an entry: it is 0, or the entry has a name that the member at its page defines.
abbrev pub IsSoundEntry : Opened → List ℕ → ℕ → Type 0
IsSoundEntry o block half =
    (half ≡ 0) ⊎ ((is_inside block (2 * half) ≡ true) × IsDefinedAt o o.members o.parts (name_at block (2 * half)) (page_at block (2 * half)))

-- So it is in each bucket of each block.
abbrev pub AreSoundIn : Opened → List ℕ → Type 0
AreSoundIn o block = (bucket : ℕ) → bucket < buckets → IsSoundEntry o block (slice_index block bucket)

abbrev pub AreSoundEntries : Opened → Type 0
AreSoundEntries o = (number : ℕ) → number < block_count o.dictionary → AreSoundIn o (block_of o.dictionary number)

-- The pages of a library of modules with a page size: one for the header, and those of each module.
abbrev pub pages_of : ℕ → List Part → ℕ
pages_of page [] = 1
pages_of page (part ∷ parts) = div_ceil (length part.bytes.items) page + pages_of page parts

-- A prime number.
abbrev pub IsPrime : ℕ → Type 0
IsPrime n = (2 ≤ n) × ((d : ℕ) → 1 < d → d < n → n % d ≢ 0)

abbrev pub opened : List ℕ → List Member → List Part → Opened
opened bytes members parts = record { bytes = bytes; page = page_size bytes; is_case_sensitive = is_case_sensitive (header_of bytes); dictionary = dictionary_at (header_of bytes) bytes; members = members; parts = parts }

-- The bytes are a library whose members are the modules that were given, in order, byte for byte; a program takes each, by
-- its lowering if the check refuses it. Both searches of its
-- dictionary find each of their names: a public and an import with the page of its member, a COMDAT and an alias
-- with that of a member that defines the name. Names that differ in case are one in a library without the flag 1.
-- The dictionary has no other names. It follows the F1H record, and ends the library; its number of blocks is prime.
-- The page size is the least with which 16 bits number the pages.
pub record IsMade (profile : Profile) (sensitive : Bool) (parts : List Part) (bytes : List ℕ) : Type 0 where
  pub members : List Member
  pub end : ℕ
  pub library : IsTakenLibrary profile bytes members end
  pub flags : (header_of bytes).flags ≡ (if sensitive then 1 else 0)
  pub after : (header_of bytes).dictionary ≡ end + 3 + word_at bytes (end + 1)
  pub last : (header_of bytes).dictionary + block_size * (header_of bytes).blocks ≡ length bytes
  pub prime : IsPrime (header_of bytes).blocks
  pub least : (page : ℕ) → is_page_size page ≡ true → page < page_size bytes → 65536 < pages_of page parts
  pub only : AreSoundEntries (opened bytes members parts)
  pub same : AreParts (opened bytes members parts) members parts

-- Two modules define one name, other than as a COMDAT or an alias: the second by its name of this number, the first by any of its
-- names. If they are one module, by one before that.
pub record IsTwice (sensitive : Bool) (parts : List Part) (first second name : ℕ) : Type 0 where
  pub one : Bor Part
  pub other : Bor Part
  pub defined : Bor Defined
  pub one_is : IsItemAt parts first (Some one)
  pub other_is : IsItemAt parts second (Some other)
  pub defined_is : IsItemAt other.now.names.items name (Some defined)
  pub strong : is_strong defined.now.kind ≡ true
  pub again : HasStrong sensitive (if first == second then take name one.now.names.items else one.now.names.items) defined.now.name.items

-- No program takes a module of a part; or a part has bytes after its module.
pub record IsRefusedPart (profile : Profile) (parts : List Part) (number : ℕ) (why : Reason) (at : Place) : Type 0 where
  pub part : Part
  pub part_is : slice_get parts number ≡ Some part
  pub refused : IsUntaken profile part.bytes.items (record { reason = why; place = at })

pub record IsLongPart (profile : Profile) (parts : List Part) (number : ℕ) : Type 0 where
  pub part : Part
  pub part_is : slice_get parts number ≡ Some part
  pub found : Taken
  pub taken : IsTaken profile part.bytes.items found
  pub longer : found.length < length part.bytes.items

-- A program takes a module, and the part has no byte after it.
pub record IsWhole (profile : Profile) (part : Part) : Type 0 where
  pub found : Taken
  pub taken : IsTaken profile part.bytes.items found
  pub whole : length part.bytes.items ≤ found.length

abbrev pub AreWhole : Profile → List Part → Type 0
AreWhole profile parts = (number : ℕ) → number < length parts → (part : Part) → slice_get parts number ≡ Some part → IsWhole profile part

-- With each page size the library would have more pages than 16 bits number.
abbrev pub ArePagesMany : List Part → Type 0
ArePagesMany parts = (page : ℕ) → is_page_size page ≡ true → 65536 < pages_of page parts

-- The bytes of all modules together.
abbrev pub bytes_of : List Part → ℕ
bytes_of [] = 0
bytes_of (part ∷ parts) = length part.bytes.items + bytes_of parts

-- The number of names of all modules together.
abbrev pub names_of : List Part → ℕ
names_of [] = 0
names_of (part ∷ parts) = length part.names.items + names_of parts

-- What it costs to look at one bucket for each name: its characters may be compared, and four more for the look.
abbrev pub looks_of_names : List Defined → ℕ
looks_of_names [] = 0
looks_of_names (d ∷ ds) = 4 + length d.name.items + looks_of_names ds

abbrev pub looks_of : List Part → ℕ
looks_of [] = 0
looks_of (part ∷ parts) = looks_of_names part.names.items + looks_of parts

-- What all searches of a library of this size may cost together.
abbrev pub credit_of : ℕ → ℕ
credit_of size = 64 * size + 1048576

-- The searches for the names may cost more than those of a library may: three for each name, each of which looks at no more
-- buckets than twice the number of names, and four.
abbrev pub AreLong : List Part → Type 0
AreLong parts = credit_of (bytes_of parts) ≤ 6 * ((names_of parts + 2) * looks_of parts)

-- What a fault of the making means for the modules that were given. `Unlike` shows that each of them is whole.
abbrev pub IsMakeFault : Profile → Bool → List Part → MakeFault → Type 0
IsMakeFault profile sensitive parts (fault.Twice first second name) = IsTwice sensitive parts first second name
IsMakeFault profile sensitive parts (fault.Refused part why at) = IsRefusedPart profile parts part why at
IsMakeFault profile sensitive parts (fault.Rest part) = IsLongPart profile parts part
IsMakeFault profile sensitive parts fault.TooLarge = ArePagesMany parts
IsMakeFault profile sensitive parts fault.LongSearches = AreLong parts
IsMakeFault profile sensitive parts fault.Unlike = AreWhole profile parts
IsMakeFault profile sensitive parts fault.Memory = ⊤
