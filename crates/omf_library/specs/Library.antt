-- Libraries of object modules (TIS OMF 1.1, appendix 2): the header, the members, and why bytes are no library.
use Rattle.std.specs.Prelude.{◌≡◌, ◌≢◌, ⊤, ℕ, ◌+◌, ◌-◌, ◌*◌, ◌/◌, ◌≤◌, ◌<◌, Bool, true, false, List, [], ◌∷◌, length, drop, slice_index, Result, Ok, Err}
use Rattle.std.specs.List.{AllZip}
use Rattle.omf_frame.specs.Bytes.{is_one_of}
use Rattle.omf_frame.specs.Framing.{Raw}
use Rattle.omf_image.specs.Limits.{profile_limits}
use Rattle.omf_check.specs.Checking.{Decides}
use Rattle.omf_check.specs.Module.{Module}
use Rattle.omf_check.specs.Refusal.{IsRefused}
use Rattle.omf_check.specs.WellFormed.{IsAccepted}
use Rattle.omf_check.specs.declared.profile.Profile.{Profile}
use Rattle.omf_library.specs.declared.header.Header.{Header}
use Rattle.omf_library.specs.declared.member.Member.{Member}
use Rattle.omf_library.specs.declared.fault.LibraryFault.{LibraryFault}
use Rattle.omf_library.specs.declared.fault.LibraryFault.TheVariants as fault

-- The type bytes of the record that begins a library, and of the one after its members.
abbrev pub library_header : ℕ
library_header = 240

abbrev pub library_end : ℕ
library_end = 241

-- The little-endian number of two bytes.
abbrev pub word_at : List ℕ → ℕ → ℕ
word_at bytes at = slice_index bytes at + 256 * slice_index bytes (at + 1)

-- The page size: the length of the header record, with its type and its length field.
abbrev pub page_size : List ℕ → ℕ
page_size bytes = word_at bytes 1 + 3

-- The fields of the header record: page size, offset of the dictionary, number of its blocks of 512 bytes, flags.
abbrev pub header_of : List ℕ → Header
header_of bytes = record { page = page_size bytes; dictionary = word_at bytes 3 + 65536 * word_at bytes 5; blocks = word_at bytes 7; flags = slice_index bytes 9 }

-- A page size is a power of two from 16 to 32768.
abbrev pub is_page_size : ℕ → Bool
is_page_size size = is_one_of (16 ∷ 32 ∷ 64 ∷ 128 ∷ 256 ∷ 512 ∷ 1024 ∷ 2048 ∷ 4096 ∷ 8192 ∷ 16384 ∷ 32768 ∷ []) size

-- The bytes begin with a header record, which is whole.
pub record HasHeader (bytes : List ℕ) : Type 0 where
  pub begun : slice_index bytes 0 ≡ library_header
  pub paged : is_page_size (page_size bytes) ≡ true
  pub whole : page_size bytes ≤ length bytes

-- The offset of the first page at or after an offset.
abbrev pub next_page : ℕ → ℕ → ℕ
next_page page at = (at + (page - 1)) / page * page

-- From the member's offset on the bytes begin with a well-formed module, which has the member's length.
abbrev pub IsMember : Profile → List ℕ → Member → Type 0
IsMember profile bytes m = (records : List Raw) × (a : IsAccepted profile profile_limits (drop m.offset bytes) records) × (length a.bytes ≡ m.length)

-- Members one after another: the first at the offset `at`, each next at the first page after the one before; and the
-- first page after the last of them is at `to`.
abbrev pub AreMembers : Profile → List ℕ → ℕ → ℕ → List Member → ℕ → Type 0
AreMembers profile bytes page at [] to = at ≡ to
AreMembers profile bytes page at (m ∷ ms) to = (m.offset ≡ at) × IsMember profile bytes m × AreMembers profile bytes page (next_page page (at + m.length)) ms to

-- The bytes are a library with these members: a header in the first page, the members from the second page on, and an
-- F1H at the first page after the last of them, at `end`. Bytes between a member and the next page may be any, and so
-- may those after the F1H (this profile's rule).
pub record IsLibrary (profile : Profile) (bytes : List ℕ) (members : List Member) (end : ℕ) : Type 0 where
  pub header : HasHeader bytes
  pub members_are : AreMembers profile bytes (page_size bytes) (page_size bytes) members end
  pub ended : slice_index bytes end ≡ library_end

-- After this number of members the next page is at the offset `at`.
pub record IsAfter (profile : Profile) (bytes : List ℕ) (count : ℕ) (at : ℕ) : Type 0 where
  pub header : HasHeader bytes
  pub members : List Member
  pub members_are : AreMembers profile bytes (page_size bytes) (page_size bytes) members at
  pub counted : length members ≡ count

-- Why bytes are no library, the first fault: no F0H; the bytes end in the header; its length is no page size; a page
-- after some members begins with neither a well-formed module nor F1H; the bytes end before such a page.
abbrev pub IsLibraryFault : Profile → List ℕ → LibraryFault → Type 0
IsLibraryFault profile bytes fault.Memory = ⊤
IsLibraryFault profile bytes fault.NoHeader = slice_index bytes 0 ≢ library_header
IsLibraryFault profile bytes fault.HeaderCut = (slice_index bytes 0 ≡ library_header) × (length bytes < page_size bytes)
IsLibraryFault profile bytes (fault.PageSize size) = (slice_index bytes 0 ≡ library_header) × (page_size bytes ≤ length bytes) × (size ≡ page_size bytes) × (is_page_size (page_size bytes) ≡ false)
IsLibraryFault profile bytes (fault.Refused member offset why at) = IsAfter profile bytes member offset × (offset < length bytes) × (slice_index bytes offset ≢ library_end) × IsRefused profile profile_limits (drop offset bytes) why at
IsLibraryFault profile bytes (fault.NoEnd member offset) = IsAfter profile bytes member offset × (length bytes ≤ offset)

-- The members of a library, or why the bytes are none. Memory may run out at any time.
abbrev pub AreMembersIn : Profile → List ℕ → Result (List Member) LibraryFault → Type 0
AreMembersIn profile bytes (Ok members) = (end : ℕ) × IsLibrary profile bytes members end
AreMembersIn profile bytes (Err f) = IsLibraryFault profile bytes f

-- The module of a member: the one that the bytes from its offset on begin with.
abbrev pub IsModuleOf : Profile → List ℕ → Member → Module → Type 0
IsModuleOf profile bytes member m = Decides profile (drop member.offset bytes) (Ok m)

-- The modules of a library's members, in order.
pub record AreOfMembers (profile : Profile) (bytes : List ℕ) (ms : List Module) : Type 0 where
  pub members : List Member
  pub library : AreMembersIn profile bytes (Ok members)
  pub modules : AllZip (IsModuleOf profile bytes) members ms

-- The modules of a library's members, or why the bytes are none. Memory may run out at any time.
abbrev pub AreModulesIn : Profile → List ℕ → Result (List Module) LibraryFault → Type 0
AreModulesIn profile bytes (Ok ms) = AreOfMembers profile bytes ms
AreModulesIn profile bytes (Err f) = IsLibraryFault profile bytes f

-- The header of bytes, or why they begin with none.
abbrev pub IsHeaderRead : List ℕ → Result Header LibraryFault → Type 0
IsHeaderRead bytes (Ok h) = HasHeader bytes × (h ≡ header_of bytes)
IsHeaderRead bytes (Err fault.NoHeader) = slice_index bytes 0 ≢ library_header
IsHeaderRead bytes (Err fault.HeaderCut) = (slice_index bytes 0 ≡ library_header) × (length bytes < page_size bytes)
IsHeaderRead bytes (Err (fault.PageSize size)) = (slice_index bytes 0 ≡ library_header) × (page_size bytes ≤ length bytes) × (size ≡ page_size bytes) × (is_page_size (page_size bytes) ≡ false)
IsHeaderRead bytes (Err _) = ⊥

-- The member at an offset, after `count` others, or why none is there.
abbrev pub IsMemberRead : Profile → List ℕ → ℕ → ℕ → Result Member LibraryFault → Type 0
IsMemberRead profile bytes count at (Ok m) = (m.offset ≡ at) × IsMember profile bytes m × (0 < m.length) × (at + m.length ≤ length bytes)
IsMemberRead profile bytes count at (Err fault.Memory) = ⊤
IsMemberRead profile bytes count at (Err (fault.Refused member offset why place)) = (member ≡ count) × (offset ≡ at) × IsRefused profile profile_limits (drop at bytes) why place
IsMemberRead profile bytes count at (Err _) = ⊥

-- The module at an offset, after those of `count` members, or why none is there.
abbrev pub IsModuleRead : Profile → List ℕ → ℕ → ℕ → Result Module LibraryFault → Type 0
IsModuleRead profile bytes count at (Ok m) = Decides profile (drop at bytes) (Ok m) × (0 < length m.bytes) × (at + length m.bytes ≤ length bytes)
IsModuleRead profile bytes count at (Err fault.Memory) = ⊤
IsModuleRead profile bytes count at (Err (fault.Refused member offset why place)) = (member ≡ count) × (offset ≡ at) × IsRefused profile profile_limits (drop at bytes) why place
IsModuleRead profile bytes count at (Err _) = ⊥
