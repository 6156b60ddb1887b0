-- The lines on a library (a format of this profile).
use Rattle.std.specs.Prelude.{ℕ, List, [], ◌∷◌, ◌++◌, codes, decimal}
use Rattle.omf_frame.specs.Fault.{reason_name, reason_number}
use Rattle.omf_frame.specs.declared.fault.Place.{Place}
use Rattle.omf_frame.specs.declared.fault.Reason.{Reason}
use Rattle.omf_library.specs.declared.fault.LibraryFault.{LibraryFault}
use Rattle.omf_library.specs.declared.fault.LibraryFault.TheVariants as header
use Rattle.omf_library.specs.declared.spans.SpanFault.{SpanFault}
use Rattle.omf_library.specs.declared.spans.SpanFault.TheVariants as page
use Rattle.omf_placement.specs.Quoted.{quoted}
use Rattle.omf_lib.specs.declared.fault.Fault.{Fault}
use Rattle.omf_lib.specs.declared.fault.Fault.TheVariants as fault
use Rattle.omf_lib.specs.declared.fault.Named.{Named}
use Rattle.omf_lib.specs.declared.fault.Public.{Public}

-- A public of a member: the member's number, and the name.
abbrev pub public_line : ℕ → List ℕ → List ℕ
public_line member name = codes "P " ++ decimal member ++ 32 ∷ quoted name ++ 10 ∷ []

-- A reason, and its place in the member, as `omf check` prints them.
abbrev pub place_text : Place → List ℕ
place_text at = codes " record " ++ decimal at.number ++ codes " at " ++ decimal at.start ++ codes " within " ++ decimal at.within

abbrev pub reason_text : Reason → Place → List ℕ
reason_text why at = 32 ∷ decimal (reason_number why) ++ 32 ∷ reason_name why ++ place_text at

-- The number and the name of a fault, and the offset that its line names.
abbrev pub fault_name : Fault → List ℕ
fault_name fault.NoHeader = codes "1 NoHeader"
fault_name fault.HeaderCut = codes "2 HeaderCut"
fault_name (fault.PageSize _) = codes "3 PageSize"
fault_name (fault.NoMember _ _) = codes "4 NoMember"
fault_name (fault.MemberCut _ _) = codes "5 MemberCut"
fault_name (fault.NoEnd _ _) = codes "6 NoEnd"
fault_name (fault.Member _ _ _ _) = codes "7 Member"
fault_name (fault.DictionaryOffset _) = codes "8 DictionaryOffset"
fault_name (fault.DictionaryOutside _) = codes "9 DictionaryOutside"
fault_name (fault.EntryOutside _) = codes "10 EntryOutside"
fault_name (fault.EntryNowhere _) = codes "11 EntryNowhere"
fault_name (fault.NotFound _) = codes "12 NotFound"
fault_name (fault.NotFoundKept _) = codes "13 NotFoundKept"
fault_name (fault.NoEntry _) = codes "14 NoEntry"
fault_name (fault.OtherMember _) = codes "15 OtherMember"
fault_name (fault.LongSearches _) = codes "16 LongSearches"
fault_name (fault.Undefined _) = codes "21 Undefined"

abbrev pub fault_offset : Fault → ℕ
fault_offset fault.NoHeader = 0
fault_offset fault.HeaderCut = 0
fault_offset (fault.PageSize _) = 1
fault_offset (fault.NoMember at _) = at
fault_offset (fault.MemberCut at _) = at
fault_offset (fault.NoEnd at _) = at
fault_offset (fault.Member at _ _ _) = at
fault_offset (fault.DictionaryOffset at) = at
fault_offset (fault.DictionaryOutside at) = at
fault_offset (fault.EntryOutside at) = at
fault_offset (fault.EntryNowhere e) = e.offset
fault_offset (fault.NotFound e) = e.offset
fault_offset (fault.NotFoundKept e) = e.offset
fault_offset (fault.NoEntry p) = p.offset
fault_offset (fault.OtherMember p) = p.offset
fault_offset (fault.LongSearches at) = at
fault_offset (fault.Undefined e) = e.offset

abbrev pub head_words : List ℕ → ℕ → List ℕ
head_words name at = codes "fault " ++ name ++ codes " at " ++ decimal at

abbrev pub fault_head : Fault → List ℕ
fault_head f = head_words (fault_name f) (fault_offset f)

-- The member, the entry or the public that has a fault.
abbrev pub of_member : ℕ → List ℕ
of_member member = codes " member " ++ decimal member

abbrev pub of_refused : ℕ → Reason → Place → List ℕ
of_refused member why at = of_member member ++ codes " refused" ++ reason_text why at

abbrev pub entry_words : ℕ → List ℕ → List ℕ
entry_words page spelled = codes " page " ++ decimal page ++ 32 ∷ quoted spelled

abbrev pub of_entry : Named → List ℕ
of_entry e = entry_words e.page e.name.now

abbrev pub of_public : Public → List ℕ
of_public p = of_member p.member ++ 32 ∷ quoted p.name.now

abbrev pub fault_rest : Fault → List ℕ
fault_rest (fault.PageSize size) = codes " size " ++ decimal size
fault_rest (fault.NoMember _ member) = of_member member
fault_rest (fault.MemberCut _ member) = of_member member
fault_rest (fault.NoEnd _ member) = of_member member
fault_rest (fault.Member _ member why at) = of_refused member why at
fault_rest (fault.EntryNowhere e) = of_entry e
fault_rest (fault.NotFound e) = of_entry e
fault_rest (fault.NotFoundKept e) = of_entry e
fault_rest (fault.Undefined e) = of_entry e
fault_rest (fault.NoEntry p) = of_public p
fault_rest (fault.OtherMember p) = of_public p
fault_rest _ = []

abbrev pub fault_line : Fault → List ℕ
fault_line f = fault_head f ++ fault_rest f ++ 10 ∷ []

-- The fault of a file that has no header of a library.
abbrev pub header_fault : LibraryFault → Fault
header_fault header.HeaderCut = fault.HeaderCut
header_fault (header.PageSize size) = fault.PageSize size
header_fault _ = fault.NoHeader

-- The fault of what is there in place of a member or of F1H.
abbrev pub page_fault : SpanFault → Fault
page_fault (page.NoMember at member) = fault.NoMember at member
page_fault (page.MemberCut at member) = fault.MemberCut at member
page_fault (page.NoEnd at member) = fault.NoEnd at member
