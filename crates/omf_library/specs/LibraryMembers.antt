-- The members of a library as a linker reads them: one that the check of modules refuses counts only if it is needed (this profile's rule).
use Rattle.std.specs.Prelude.{◌≡◌, ◌≢◌, ⊤, ℕ, ◌+◌, ◌<◌, ◌≤◌, ◌==◌, ◌||◌, if◌then◌else◌, IsTrue, List, [], ◌∷◌, length, drop, map, flat_map, slice_index, Result, Ok, Err, Vec}
use Rattle.std.specs.Global.{Global}
use Rattle.omf_frame.specs.Framing.{is_header}
use Rattle.omf_image.specs.Limits.{profile_limits}
-- computed: readings_meet_layouts and contents_are_typed_once of omf_records.
use Rattle.omf_records.specs.Inner.Reading.{contents_or, read_body}
use Rattle.omf_records.specs.Values.{Contents, Publics}
use Rattle.omf_check.specs.Checking.{Decides}
use Rattle.omf_check.specs.Module.{records_in}
use Rattle.omf_check.specs.Refusal.{IsRefused}
use Rattle.omf_check.specs.declared.profile.Profile.{Profile}
use Rattle.omf_library.specs.Library.{HasHeader, IsLibraryFault, library_end, next_page, page_size}
use Rattle.omf_library.specs.Spans.{BeginsWithModule, IsSpansEnd}
use Rattle.omf_library.specs.declared.fault.LibraryFault.{LibraryFault}
use Rattle.omf_library.specs.declared.fault.LibraryFault.TheVariants as fault
use Rattle.omf_library.specs.declared.judged.LibraryMember.{LibraryMember}
use Rattle.omf_library.specs.declared.judged.LibraryMember.TheVariants as member
use Rattle.omf_library.specs.declared.judged.RefusedMember.{RefusedMember}
use Rattle.omf_library.specs.declared.spans.SpanFault.{SpanFault}

-- The names of a PUBDEF.
abbrev pub defined_publics : Contents → List (List ℕ)
defined_publics (Publics p) = map (λ q. q.item.name) p.items
defined_publics _ = []

-- The names of a record if it is a PUBDEF (90H, 91H) whose contents are readable; and those of all records in bytes.
abbrev pub publics_of : ℕ → List ℕ → List (List ℕ)
publics_of kind body = if (kind == 0x90) || (kind == 0x91) then defined_publics (contents_or body (read_body kind body)) else []

abbrev pub publics_in : List ℕ → List (List ℕ)
publics_in bytes = flat_map (λ r. publics_of r.kind r.body) (records_in bytes)

abbrev pub names_kept : List (Vec ℕ Global) → List (List ℕ)
names_kept names = map (λ n. n.items) names

-- At an offset begins a member that is refused. It ends with its first MODEND, by the lengths of its records, and has the names of its PUBDEFs.
pub record IsRefusedAt (profile : Profile) (bytes : List ℕ) (at : ℕ) (r : RefusedMember) (size : ℕ) : Type 0 where
  pub offset : r.offset ≡ at
  pub headed : IsTrue (is_header (slice_index bytes at))
  pub refused : IsRefused profile profile_limits (drop at bytes) r.reason r.place
  pub found : List ℕ
  pub spanned : BeginsWithModule (drop at bytes) found
  pub sized : size ≡ length found
  pub names : names_kept r.publics.items ≡ publics_in found

-- At an offset begins a member of this number of bytes: a well-formed module, or one that is refused.
abbrev pub IsMemberAt : Profile → List ℕ → ℕ → LibraryMember → ℕ → Type 0
IsMemberAt profile bytes at (member.Module m) size = Decides profile (drop at bytes) (Ok m) × (size ≡ length m.bytes)
IsMemberAt profile bytes at (member.Refused r) size = IsRefusedAt profile bytes at r size

-- Members one after another: the first at the offset `at`, each next at the first page after the one before; and the
-- first page after the last of them is at `to`.
abbrev pub AreMembersFrom : Profile → List ℕ → ℕ → ℕ → List LibraryMember → ℕ → Type 0
AreMembersFrom profile bytes page at [] to = at ≡ to
AreMembersFrom profile bytes page at (m ∷ ms) to = (size : ℕ) × IsMemberAt profile bytes at m size × AreMembersFrom profile bytes page (next_page page (at + size)) ms to

-- After these members, which begin at the second page, the next page is at the offset `at`.
pub record AreReadTo (profile : Profile) (bytes : List ℕ) (ms : List LibraryMember) (at : ℕ) : Type 0 where
  pub header : HasHeader bytes
  pub members_are : AreMembersFrom profile bytes (page_size bytes) (page_size bytes) ms at

-- The bytes are a library with these members.
pub record IsLibraryOf (profile : Profile) (bytes : List ℕ) (ms : List LibraryMember) : Type 0 where
  pub end : ℕ
  pub read : AreReadTo profile bytes ms end
  pub ended : slice_index bytes end ≡ library_end

-- Why bytes have no such members, the first fault: no F0H; the bytes end in the header; its length is no page size; a page after some members
-- begins with neither a member, refused or not, nor F1H; the bytes end before such a page.
abbrev pub IsReadingFault : Profile → List ℕ → LibraryFault → Type 0
IsReadingFault profile bytes (fault.Refused count offset why at) = (ms : List LibraryMember) × AreReadTo profile bytes ms offset × (length ms ≡ count) × (offset < length bytes)
    × (slice_index bytes offset ≢ library_end) × IsRefused profile profile_limits (drop offset bytes) why at × (f : SpanFault) × IsSpansEnd bytes count offset (Err f)
IsReadingFault profile bytes (fault.NoEnd count offset) = (ms : List LibraryMember) × AreReadTo profile bytes ms offset × (length ms ≡ count) × (length bytes ≤ offset)
IsReadingFault profile bytes f = IsLibraryFault profile bytes f

-- The members of a library, or why the bytes have none. Memory may run out at any time.
abbrev pub AreLibraryMembers : Profile → List ℕ → Result (List LibraryMember) LibraryFault → Type 0
AreLibraryMembers profile bytes (Ok ms) = IsLibraryOf profile bytes ms
AreLibraryMembers profile bytes (Err f) = IsReadingFault profile bytes f
