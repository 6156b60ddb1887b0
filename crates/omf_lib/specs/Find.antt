-- What `omf-lib find` prints (a format of this profile).
use Rattle.std.specs.Prelude.{◌≡◌, ◌⊎◌, ◌<◌, ℕ, ◌==◌, ◌&&◌, ◌||◌, not, Bool, true, false, if◌then◌else◌, List, [], ◌∷◌, ◌++◌, flat_map, map, codes, decimal, Option, Some, None, Result, Ok, Err}
use Rattle.omf_check.specs.declared.profile.Profile.{Profile}
use Rattle.omf_host.specs.Lines.{failure_line}
use Rattle.omf_host.specs.declared.ending.Status.{Status}
use Rattle.omf_host.specs.declared.ending.Status.TheVariants as status
use Rattle.omf_library.specs.Dictionary.{HasOther, IsFirstEntry, IsFirstInBlock, IsSought, block_count, block_of, entry_offset, is_same_name, look_of, name_at}
use Rattle.omf_library.specs.Hash.{buckets}
use Rattle.omf_library.specs.declared.dictionary.Look.TheVariants as look
use Rattle.omf_library.specs.LibraryMembers.{names_kept}
use Rattle.omf_library.specs.Library.{HasHeader, IsHeaderRead, header_of, page_size}
use Rattle.omf_library.specs.Spans.{AreSpansIn}
use Rattle.omf_library.specs.declared.dictionary.Dictionary.{Dictionary}
use Rattle.omf_library.specs.declared.fault.LibraryFault.{LibraryFault}
use Rattle.omf_library.specs.declared.header.Header.{Header}
use Rattle.omf_library.specs.declared.search.Rule.TheVariants as rule
use Rattle.omf_library.specs.declared.spans.Span.{Span}
use Rattle.omf_library.specs.declared.spans.SpanFault.{SpanFault}
use Rattle.omf_placement.specs.Quoted.{quoted}
use Rattle.omf_lib.specs.Lines.{fault_line, header_fault, page_fault, public_line}
use Rattle.omf_lib.specs.Members.{AreAllPublics, IsPlaced, Public}
use Rattle.omf_lib.specs.Near.{near_name}
use Rattle.omf_lib.specs.declared.asked.Find.{Find}
use Rattle.omf_lib.specs.declared.fault.Fault.TheVariants as fault
use Rattle.omf_lib.specs.declared.finding.Entry.{Entry}
use Rattle.omf_lib.specs.declared.finding.First.{First}

-- A line for each public of a name.
abbrev pub public_text : Bool → List ℕ → Public → List ℕ
public_text sensitive name p = if is_same_name sensitive p.name name then public_line p.member p.name else []

abbrev pub publics_text : Bool → List ℕ → List Public → List ℕ
publics_text sensitive name ps = flat_map (public_text sensitive name) ps

-- What a bucket has of a name: another entry or none; or its entry, with the page of a member and the spelling that is there.
abbrev pub IsSpelledAt : Bool → List ℕ → ℕ → List ℕ → Option First → Type 0
IsSpelledAt sensitive block bucket name None = HasOther sensitive block bucket name
IsSpelledAt sensitive block bucket name (Some f) = (look_of sensitive block bucket name ≡ look.Found f.page) × (f.name.now ≡ name_at block (entry_offset block bucket))

-- The first entry of a name in a block, with its spelling; and in a dictionary, in the order of the blocks and their buckets.
abbrev pub IsFirstSpelledIn : Bool → List ℕ → List ℕ → Option First → Type 0
IsFirstSpelledIn sensitive block name None = IsFirstInBlock sensitive block name None
IsFirstSpelledIn sensitive block name (Some f) = (bucket : ℕ) × (bucket < buckets) × ((i : ℕ) → i < bucket → HasOther sensitive block i name) × IsSpelledAt sensitive block bucket name (Some f)

abbrev pub IsFirstSpelled : Bool → List ℕ → List ℕ → Option First → Type 0
IsFirstSpelled sensitive dictionary name None = IsFirstEntry sensitive dictionary name None
IsFirstSpelled sensitive dictionary name (Some f) = (number : ℕ) × (number < block_count dictionary) × ((i : ℕ) → i < number → IsFirstInBlock sensitive (block_of dictionary i) name None)
    × IsFirstSpelledIn sensitive (block_of dictionary number) name (Some f)

-- What a dictionary has for a name: its first entry, and what the two searches find.
pub record IsEntry (sensitive : Bool) (dictionary name : List ℕ) (e : Entry) : Type 0 where
  pub first : IsFirstSpelled sensitive dictionary name e.first
  pub restart : IsSought rule.Restart sensitive dictionary name e.restart
  pub keep : IsSought rule.Keep sensitive dictionary name e.keep

-- The line of the first entry: its page, the name as it is spelled there, and a word for each search that finds this page.
abbrev pub found_word : Option ℕ → ℕ → List ℕ → List ℕ
found_word None page word = []
found_word (Some found) page word = if found == page then word else []

abbrev pub entry_line : Option First → Option ℕ → Option ℕ → List ℕ
entry_line None restart keep = []
entry_line (Some f) restart keep = codes "E " ++ decimal f.page ++ 32 ∷ quoted f.name.now ++ found_word restart f.page (codes " restart") ++ found_word keep f.page (codes " keep") ++ 10 ∷ []

abbrev pub entry_text : Entry → List ℕ
entry_text e = entry_line e.first e.restart.page e.keep.page

abbrev pub IsEntryText : Bool → Option Dictionary → List ℕ → List ℕ → Type 0
IsEntryText ignores None name text = text ≡ []
IsEntryText ignores (Some d) name text = (e : Entry) × IsEntry (d.is_case_sensitive && not ignores) d.bytes.now name e × (text ≡ entry_text e)

-- A name is refused if it is nowhere.
abbrev pub is_nowhere : List ℕ → Bool
is_nowhere [] = true
is_nowhere (c ∷ text) = false

-- Then a public with a near name is shown, if there is one: the first of the members.
abbrev pub near_public : List Public → List ℕ → Option (List ℕ)
near_public publics name = near_name name (map (λ p. p.name) publics)

abbrev pub near_words : Option (List ℕ) → List ℕ
near_words None = []
near_words (Some near) = codes "; there is " ++ quoted near

abbrev pub nowhere_reason : List Public → List ℕ → List ℕ
nowhere_reason publics name = codes "no such public" ++ near_words (near_public publics name)

abbrev pub name_text : List Public → List ℕ → List ℕ → List ℕ
name_text publics name places = if is_nowhere places then failure_line (codes "refused") name (nowhere_reason publics name) else places

-- The places of a name: the members that have it as a public, and its entry.
abbrev pub ArePlaces : Bool → Option Dictionary → List Public → List ℕ → List ℕ → Type 0
ArePlaces ignores dictionary publics name text = (entry : List ℕ) × IsEntryText ignores dictionary name entry × (text ≡ publics_text (not ignores) name publics ++ entry)

abbrev pub IsNameFound : Bool → Option Dictionary → List Public → List ℕ → Bool → List ℕ → Type 0
IsNameFound ignores dictionary publics name is_refused text = (places : List ℕ) × ArePlaces ignores dictionary publics name places
    × (is_refused ≡ is_nowhere places) × (text ≡ name_text publics name places)

-- The names one after another. It is refused if a name is.
abbrev pub AreNamesFound : Bool → Option Dictionary → List Public → List (List ℕ) → Bool → List ℕ → Type 0
AreNamesFound ignores dictionary publics [] is_refused text = (is_refused ≡ false) × (text ≡ [])
AreNamesFound ignores dictionary publics (n ∷ ns) is_refused text = (one : Bool) × (others : Bool) × (own : List ℕ) × (rest : List ℕ) × IsNameFound ignores dictionary publics n one own
    × AreNamesFound ignores dictionary publics ns others rest × (is_refused ≡ (one || others)) × (text ≡ own ++ rest)

-- All comments are accepted in members here.
abbrev pub any_profile : Profile
any_profile = record { refuse_vendor_comments = false }

-- The names in a library with these members and this dictionary.
abbrev pub AreNamesIn : Find → List Span → Option Dictionary → Bool → List ℕ → Type 0
AreNamesIn asked members dictionary is_refused text = (publics : List Public) × AreAllPublics any_profile 0 members publics × AreNamesFound asked.ignores_case dictionary publics (names_kept asked.names.items) is_refused text

-- A dictionary that is not there is a fault, whose line is the first one.
abbrev pub is_outside : Option Dictionary → Bool
is_outside None = true
is_outside (Some d) = false

abbrev pub outside_text : Header → Option Dictionary → List ℕ
outside_text h None = fault_line (fault.DictionaryOutside h.dictionary)
outside_text h (Some d) = []

-- What is printed for a library with this header and these members; or for a file in which something else is there in place of a member.
abbrev pub IsFoundIn : Find → Header → List ℕ → List Span → Result ℕ SpanFault → Bool → List ℕ → Type 0
IsFoundIn asked h bytes members (Err f) is_refused text = (is_refused ≡ true) × (text ≡ fault_line (page_fault f))
IsFoundIn asked h bytes members (Ok end) is_refused text = (dictionary : Option Dictionary) × (are_refused : Bool) × (own : List ℕ) × IsPlaced h bytes end dictionary
    × AreNamesIn asked members dictionary are_refused own × (is_refused ≡ (is_outside dictionary || are_refused)) × (text ≡ outside_text h dictionary ++ own)

-- What is printed for a file.
abbrev pub IsFound : Find → List ℕ → Bool → List ℕ → Type 0
IsFound asked bytes is_refused text =
    ((f : LibraryFault) × IsHeaderRead bytes (Err f) × (is_refused ≡ true) × (text ≡ fault_line (header_fault f)))
    ⊎ (HasHeader bytes × (members : List Span) × (end : Result ℕ SpanFault) × AreSpansIn bytes (page_size bytes) members end × IsFoundIn asked (header_of bytes) bytes members end is_refused text)

-- The status of what is refused or not.
abbrev pub refused_status : Bool → Status
refused_status true = status.Refused
refused_status false = status.Done
