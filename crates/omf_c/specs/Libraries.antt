-- The results of the calls for libraries (TIS OMF 1.1, appendix 2; the results are this profile's rule).
use Rattle.std.specs.Prelude.{◌≡◌, ℕ, ◌*◌, List, map, Option, Some, None, Result, Ok, Err}
use Rattle.omf_frame.specs.Fault.{reason_number}
use Rattle.omf_check.specs.declared.profile.Profile.{Profile}
use Rattle.omf_library.specs.Dictionary.{IsDictionary, IsFirstEntry}
use Rattle.omf_library.specs.Library.{AreMembersIn, IsHeaderRead}
use Rattle.omf_library.specs.declared.dictionary.Dictionary.{Dictionary}
use Rattle.omf_library.specs.declared.fault.LibraryFault.{LibraryFault}
use Rattle.omf_library.specs.declared.fault.LibraryFault.TheVariants as fault
use Rattle.omf_library.specs.declared.header.Header.{Header}
use Rattle.omf_library.specs.declared.member.Member.{Member}
use Rattle.omf_c.specs.Answers.{HandsOut, done}
use Rattle.omf_c.specs.declared.answer.Answer.{Answer}
use Rattle.omf_c.specs.declared.rows.LibraryMemberRow.{LibraryMemberRow}

-- The row of a member: its offset and its size in bytes.
abbrev pub library_row : Member → LibraryMemberRow
library_row m = record { offset = m.offset; size = m.length }

-- The result for bytes that are no library, by the number of the reason alone.
abbrev pub no_library : ℕ → Answer
no_library reason = record done { status = 9; reason = reason }

-- The result for bytes that are no library: the number of the reason; the page size; where the end is missing and how many members are before it; the refusal of a
-- member, where it begins, and how many are before it.
abbrev pub of_library_fault : LibraryFault → Answer
of_library_fault fault.Memory = record done { status = 1 }
of_library_fault fault.NoHeader = no_library 1
of_library_fault fault.HeaderCut = no_library 2
of_library_fault (fault.PageSize n) = record (no_library 3) { size = n }
of_library_fault (fault.NoEnd members at) = record (no_library 4) { size = at; record_count = members }
of_library_fault (fault.Refused members at why place) = record done { status = 4; reason = reason_number why; number = place.number; within = place.within; start = place.start; size = at; record_count = members }

-- The rows of the members of a library, or why the bytes are none.
abbrev pub AreRowsIn : Profile → List ℕ → Result (List LibraryMemberRow) LibraryFault → Type 0
AreRowsIn profile bytes (Ok rows) = (members : List Member) × AreMembersIn profile bytes (Ok members) × (rows ≡ map library_row members)
AreRowsIn profile bytes (Err f) = AreMembersIn profile bytes (Err f)

-- The result for them. A fault leaves the buffer unchanged.
abbrev pub ShowsMembers : Result (List LibraryMemberRow) LibraryFault → Answer → List LibraryMemberRow → List LibraryMemberRow → Type 0
ShowsMembers (Ok rows) answer old new = HandsOut rows answer old new
ShowsMembers (Err f) answer old new = (answer ≡ of_library_fault f) × (new ≡ old)

abbrev pub IsLibraryAnswered : Profile → List ℕ → Answer → List LibraryMemberRow → List LibraryMemberRow → Type 0
IsLibraryAnswered profile bytes answer old new = (made : Result (List LibraryMemberRow) LibraryFault) × AreRowsIn profile bytes made × ShowsMembers made answer old new

-- The result for the entry of a name: 1 and the offset of its page, or 0 if there is none.
abbrev pub of_entry : ℕ → Option ℕ → Answer
of_entry page None = done
of_entry page (Some number) = record done { record_count = 1; size = number * page }

-- The result for the first entry of a name in a dictionary, if there is a dictionary.
abbrev pub IsEntryOf : Header → List ℕ → Option Dictionary → Answer → Type 0
IsEntryOf header name None answer = answer ≡ no_library 5
IsEntryOf header name (Some d) answer = (entry : Option ℕ) × IsFirstEntry d.is_case_sensitive d.bytes.now name entry × (answer ≡ of_entry header.page entry)

-- The result for a name in the dictionary of bytes with this header, or for bytes without a header.
abbrev pub IsFoundIn : List ℕ → List ℕ → Result Header LibraryFault → Answer → Type 0
IsFoundIn bytes name (Ok header) answer = (dictionary : Option Dictionary) × IsDictionary header bytes dictionary × IsEntryOf header name dictionary answer
IsFoundIn bytes name (Err f) answer = answer ≡ of_library_fault f

abbrev pub IsFound : List ℕ → List ℕ → Answer → Type 0
IsFound bytes name answer = (header : Result Header LibraryFault) × IsHeaderRead bytes header × IsFoundIn bytes name header answer
