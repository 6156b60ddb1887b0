-- What the members of a library define, and the entries of its dictionary whose members do not define their names (this profile's rule).
use Rattle.std.specs.Prelude.{◌≡◌, ◌⊎◌, ℕ, ◌/◌, ◌<◌, ◌==◌, ◌&&◌, nat_lt, not, if◌then◌else◌, Bool, true, false, List, [], ◌∷◌, ◌++◌, Ok, Some, codes, eqb}
use Rattle.std.specs.List.{ends_with, list_any}
use Rattle.omf_check.specs.Module.{recs_of}
use Rattle.omf_check.specs.declared.profile.Profile.{Profile}
use Rattle.omf_library.specs.Dictionary.{IsDictionary, block_count, block_of, entry_offset, is_case_sensitive, is_inside, is_same_name, name_at, page_at}
use Rattle.omf_library.specs.Hash.{buckets}
use Rattle.omf_library.specs.Library.{HasHeader, header_of, page_size}
use Rattle.omf_making.specs.Names.{Defined, defined_names}
use Rattle.omf_library.specs.Spans.{AreSpansIn}
use Rattle.omf_making.specs.Taken.{IsTaken, IsUntaken}
use Rattle.omf_library.specs.declared.dictionary.Dictionary.{Dictionary}
use Rattle.omf_library.specs.declared.header.Header.{Header}
use Rattle.omf_library.specs.declared.spans.Span.{Span}
use Rattle.omf_making.specs.declared.taken.Refusal.{Refusal}
use Rattle.omf_making.specs.declared.taken.Taken.{Taken}
use Rattle.omf_records.specs.Values.{Rec}
use Rattle.omf_lib.specs.Lines.{entry_words, head_words}
use Rattle.omf_lib.specs.Members.{begins_before}
use Rattle.omf_lib.specs.declared.library.Library.{Library}

-- The page at which a member begins, and the names that it defines.
pub record Definer : Type 0 where
  pub page : ℕ
  pub names : List Defined

abbrev pub definer_of : ℕ → List Rec → Definer
definer_of page m = record { page = page; names = defined_names m }

-- What the member at an offset defines, with pages of this size, by the module that a program takes of it. One of which none is taken is not judged either.
abbrev pub IsDefiner : Profile → ℕ → ℕ → List ℕ → List Definer → Type 0
IsDefiner profile page offset bytes ds =
    ((t : Taken) × IsTaken profile bytes t × (ds ≡ definer_of (offset / page) (recs_of t.«module».bytes) ∷ []))
    ⊎ ((why : Refusal) × IsUntaken profile bytes why × (ds ≡ []))

abbrev pub AreDefiners : Profile → ℕ → List Span → List Definer → Type 0
AreDefiners profile page [] ds = ds ≡ []
AreDefiners profile page (m ∷ ms) ds = (own : List Definer) × (others : List Definer) × IsDefiner profile page m.offset m.bytes.now own × AreDefiners profile page ms others × (ds ≡ own ++ others)

-- Whether one of these members begins at a page; and whether one that does defines a name.
abbrev pub is_judged : List Definer → ℕ → Bool
is_judged ds page = list_any (λ d. d.page == page) ds

abbrev pub has_defined : Bool → List Defined → List ℕ → Bool
has_defined sensitive names name = list_any (λ n. is_same_name sensitive n.name name) names

abbrev pub is_defined : Bool → List Definer → ℕ → List ℕ → Bool
is_defined sensitive ds page name = list_any (λ d. (d.page == page) && has_defined sensitive d.names name) ds

-- Some librarians give each module an entry: its name, and "!".
abbrev pub is_of_module : List ℕ → Bool
is_of_module name = ends_with eqb name (codes "!")

-- Whether an entry has the page of one of these members, and that member does not define its name.
abbrev pub is_undefined : Bool → List Definer → ℕ → List ℕ → Bool
is_undefined sensitive ds page name = is_judged ds page && (not (is_of_module name) && not (is_defined sensitive ds page name))

abbrev pub is_undefined_at : Bool → List Definer → List ℕ → ℕ → Bool
is_undefined_at sensitive ds block bucket = let at = entry_offset block bucket in nat_lt 0 at && (is_inside block at && is_undefined sensitive ds (page_at block at) (name_at block at))

-- The line of such an entry, whose bucket is at this offset of the file.
abbrev pub undefined_text : Bool → List Definer → ℕ → List ℕ → ℕ → List ℕ
undefined_text sensitive ds offset block bucket =
    let at = entry_offset block bucket in
    if is_undefined_at sensitive ds block bucket then head_words (codes "21 Undefined") offset ++ entry_words (page_at block at) (name_at block at) ++ 10 ∷ [] else []

-- Whether one of the first n has a property.
abbrev pub IsAnyOf : (ℕ → Bool → Type 0) → ℕ → Bool → Type 0
IsAnyOf Has n false = (i : ℕ) → i < n → Has i false
IsAnyOf Has n true = (i : ℕ) × (i < n) × Has i true

-- Whether a block has an undefined entry, and whether a dictionary has one.
abbrev pub HasUndefinedIn : Bool → List Definer → List ℕ → Bool → Type 0
HasUndefinedIn sensitive ds block found = IsAnyOf (λ bucket b. is_undefined_at sensitive ds block bucket ≡ b) buckets found

abbrev pub HasUndefined : Bool → List Definer → List ℕ → Bool → Type 0
HasUndefined sensitive ds dictionary found = IsAnyOf (λ number b. HasUndefinedIn sensitive ds (block_of dictionary number) b) (block_count dictionary) found

-- The dictionary is in the file, and the member of each entry defines its name.
abbrev pub AreEntriesDefined : Header → List ℕ → List Definer → Type 0
AreEntriesDefined h bytes ds = (d : Dictionary) × IsDictionary h bytes (Some d) × HasUndefined (is_case_sensitive h) ds d.bytes.now false

-- The same of a library that is read: its members end with an F1H, and the dictionary does not begin before it.
pub record IsLibraryDefined (l : Library) (ds : List Definer) : Type 0 where
  pub end : ℕ
  pub ended : l.spans.end ≡ Ok end
  pub after : begins_before l.header end ≡ false
  pub entries : AreEntriesDefined l.header l.bytes.now ds

-- In a library that `omf-lib check` finds to be without a fault: it has members up to an F1H, before which the dictionary does not begin, and the member of each entry defines its name.
abbrev pub IsAllDefined : Profile → List ℕ → Type 0
IsAllDefined profile bytes = HasHeader bytes × (members : List Span) × (end : ℕ) × AreSpansIn bytes (page_size bytes) members (Ok end)
    × (begins_before (header_of bytes) end ≡ false) × (ds : List Definer) × AreDefiners profile (page_size bytes) members ds × AreEntriesDefined (header_of bytes) bytes ds
