-- The dictionary of a library (TIS OMF 1.1, appendix 2, "Dictionary"): its entries, and two ways to search them.
use Rattle.std.specs.Prelude.{◌≡◌, ◌≢◌, ℕ, zero, suc, ◌+◌, ◌*◌, ◌/◌, ◌%◌, ◌<◌, ◌≤◌, ◌==◌, ◌&&◌, nat_le, not, if◌then◌else◌, Bool, true, false, List, [], ◌∷◌, length, drop, take, slice_index, Option, Some, None, MatchOption}
use Rattle.omf_library.specs.Hash.{buckets, probe_of}
use Rattle.omf_library.specs.declared.dictionary.Bucket.{Bucket}
use Rattle.omf_library.specs.declared.dictionary.Bucket.TheVariants as content
use Rattle.omf_library.specs.declared.dictionary.Dictionary.{Dictionary}
use Rattle.omf_library.specs.declared.dictionary.Look.{Look}
use Rattle.omf_library.specs.declared.dictionary.Look.TheVariants as look
use Rattle.omf_library.specs.declared.header.Header.{Header}
use Rattle.omf_library.specs.declared.search.Ended.{Ended}
use Rattle.omf_library.specs.declared.search.Ended.TheVariants as ended
use Rattle.omf_library.specs.declared.search.Rule.{Rule}
use Rattle.omf_library.specs.declared.search.Rule.TheVariants as rule
use Rattle.omf_library.specs.declared.search.Sought.{Sought}

-- A block has 512 bytes: a byte for each of its buckets, a byte of flags, and its entries.
abbrev pub block_size : ℕ
block_size = 512

abbrev pub block_of : List ℕ → ℕ → List ℕ
block_of dictionary number = take block_size (drop (block_size * number) dictionary)

abbrev pub block_count : List ℕ → ℕ
block_count dictionary = length dictionary / block_size

-- Whether a block is marked as full: its byte after the buckets is FFH.
abbrev pub is_marked_full : List ℕ → Bool
is_marked_full block = slice_index block buckets == 255

-- A bucket is a byte: half the offset of its entry in the block, or 0 if it has none.
abbrev pub entry_offset : List ℕ → ℕ → ℕ
entry_offset block bucket = 2 * slice_index block bucket

-- An entry is the length of its name, the name, and the number of a page, little-endian.
abbrev pub name_length : List ℕ → ℕ → ℕ
name_length block at = slice_index block at

abbrev pub name_at : List ℕ → ℕ → List ℕ
name_at block at = take (name_length block at) (drop (at + 1) block)

abbrev pub page_at : List ℕ → ℕ → ℕ
page_at block at = slice_index block (at + 1 + name_length block at) + 256 * slice_index block (at + 2 + name_length block at)

-- Whether an entry ends in its block.
abbrev pub is_inside : List ℕ → ℕ → Bool
is_inside block at = nat_le (at + name_length block at + 3) (length block)

-- A character as it is compared: capital letters are small ones, unless the dictionary distinguishes them.
abbrev pub folded : Bool → ℕ → ℕ
folded is_case_sensitive c = if not is_case_sensitive && (nat_le 65 c && nat_le c 90) then c + 32 else c

-- Whether two names are one.
abbrev pub is_same_name : Bool → List ℕ → List ℕ → Bool
is_same_name sensitive [] [] = true
is_same_name sensitive [] (d ∷ ds) = false
is_same_name sensitive (c ∷ cs) [] = false
is_same_name sensitive (c ∷ cs) (d ∷ ds) = (folded sensitive c == folded sensitive d) && is_same_name sensitive cs ds

-- What a bucket has for a name: no entry; the name's entry, with the page of its member; or another entry, which may
-- also pass the end of its block.
abbrev pub look_of : Bool → List ℕ → ℕ → List ℕ → Look
look_of sensitive block bucket name =
    let at = entry_offset block bucket in
    if at == 0 then look.Empty else (if is_inside block at && is_same_name sensitive (name_at block at) name then look.Found (page_at block at) else look.Other)

-- What a bucket of a block has: no entry; an entry of a name, with the page of a member; or one that passes the end of
-- the block.
abbrev pub IsBucket : List ℕ → ℕ → Bucket → Type 0
IsBucket block bucket content.Empty = entry_offset block bucket ≡ 0
IsBucket block bucket (content.Entry page name) = let at = entry_offset block bucket in (0 < at) × (is_inside block at ≡ true) × (page ≡ page_at block at) × (name.now ≡ name_at block at)
IsBucket block bucket content.Outside = let at = entry_offset block bucket in (0 < at) × (is_inside block at ≡ false)

-- A bucket has no entry of a name.
abbrev pub HasOther : Bool → List ℕ → ℕ → List ℕ → Type 0
HasOther sensitive block bucket name = (page : ℕ) → look_of sensitive block bucket name ≢ look.Found page

-- The page of the first entry of a name in a block, if there is one.
abbrev pub IsFirstInBlock : Bool → List ℕ → List ℕ → Option ℕ → Type 0
IsFirstInBlock sensitive block name None = (bucket : ℕ) → bucket < buckets → HasOther sensitive block bucket name
IsFirstInBlock sensitive block name (Some page) = (bucket : ℕ) × (bucket < buckets) × ((i : ℕ) → i < bucket → HasOther sensitive block i name) × (look_of sensitive block bucket name ≡ look.Found page)

-- The page of the first entry of a name in a dictionary, in the order of the blocks and their buckets, if there is one.
abbrev pub IsFirstEntry : Bool → List ℕ → List ℕ → Option ℕ → Type 0
IsFirstEntry sensitive dictionary name None = (number : ℕ) → number < block_count dictionary → IsFirstInBlock sensitive (block_of dictionary number) name None
IsFirstEntry sensitive dictionary name (Some page) = (number : ℕ) × (number < block_count dictionary) × ((i : ℕ) → i < number → IsFirstInBlock sensitive (block_of dictionary i) name None)
    × IsFirstInBlock sensitive (block_of dictionary number) name (Some page)

-- The bucket that is looked at after k others, modulo their number.
abbrev pub bucket_after : ℕ → ℕ → ℕ → ℕ
bucket_after first step k = (first + k * step) % buckets

-- What a search looks for in one block: a name, from a bucket on, by steps.
pub record Task : Type 0 where
  pub is_case_sensitive : Bool
  pub name : List ℕ
  pub first : ℕ
  pub step : ℕ

abbrev pub looked_at : Task → List ℕ → ℕ → Look
looked_at task block k = look_of task.is_case_sensitive block (bucket_after task.first task.step k) task.name

-- The first k buckets that are looked at have other entries.
abbrev pub ArePassed : Task → List ℕ → ℕ → Type 0
ArePassed task block k = (i : ℕ) → i < k → looked_at task block i ≡ look.Other

-- How the search of a block ends. It finds the name; or it finds an empty bucket first, in a block that is not marked
-- as full; or it stops at an empty bucket of a full block, or has looked at all of them.
abbrev pub IsEnded : Task → List ℕ → Ended → Type 0
IsEnded task block (ended.Found page) = (k : ℕ) × (k < buckets) × ArePassed task block k × (looked_at task block k ≡ look.Found page)
IsEnded task block ended.Absent = (k : ℕ) × (k < buckets) × ArePassed task block k × (looked_at task block k ≡ look.Empty) × (is_marked_full block ≡ false)
IsEnded task block (ended.Full bucket) = (k : ℕ) × (k ≤ buckets) × ArePassed task block k × (bucket ≡ bucket_after task.first task.step k) × (k < buckets → (looked_at task block k ≡ look.Empty) × (is_marked_full block ≡ true))

-- The bucket at which a search begins in the next block: the name's first one again, or the one at which it stopped.
abbrev pub next_first : Rule → ℕ → ℕ → ℕ
next_first rule.Restart first stopped = first
next_first rule.Keep first stopped = stopped

-- The block that is searched after k others, modulo their number.
abbrev pub block_after : List ℕ → List ℕ → ℕ → ℕ
block_after dictionary name k = let count = block_count dictionary in ((probe_of count name).block + k * (probe_of count name).block_step) % count

abbrev pub task_of : Bool → List ℕ → List ℕ → ℕ → Task
task_of sensitive dictionary name first = record { is_case_sensitive = sensitive; name = name; first = first; step = (probe_of (block_count dictionary) name).bucket_step }

-- A search of a name, after k full blocks, is at this bucket of the next one.
abbrev pub Reaches : Rule → Bool → List ℕ → List ℕ → ℕ → ℕ → Type 0
Reaches rule sensitive dictionary name zero first = first ≡ (probe_of (block_count dictionary) name).bucket
Reaches rule sensitive dictionary name (suc k) first = (before : ℕ) × (stopped : ℕ) × Reaches rule sensitive dictionary name k before
    × IsEnded (task_of sensitive dictionary name before) (block_of dictionary (block_after dictionary name k)) (ended.Full stopped)
    × (first ≡ next_first rule (probe_of (block_count dictionary) name).bucket stopped)

-- A search finds a name in a block, after k full ones, with the page of its member.
pub record IsFoundAfter (rule : Rule) (sensitive : Bool) (dictionary name : List ℕ) (k : ℕ) (page : ℕ) : Type 0 where
  pub first : ℕ
  pub inside : k < block_count dictionary
  pub reached : Reaches rule sensitive dictionary name k first
  pub found : IsEnded (task_of sensitive dictionary name first) (block_of dictionary (block_after dictionary name k)) (ended.Found page)

-- A search does not find a name: after k full blocks it finds an empty bucket in one that is not full, or all are full.
pub record IsAbsentAfter (rule : Rule) (sensitive : Bool) (dictionary name : List ℕ) (k : ℕ) : Type 0 where
  pub first : ℕ
  pub inside : k ≤ block_count dictionary
  pub reached : Reaches rule sensitive dictionary name k first
  pub absent : k < block_count dictionary → IsEnded (task_of sensitive dictionary name first) (block_of dictionary (block_after dictionary name k)) ended.Absent

-- What a search of a name answers, by a rule: the page of the member, or none, and the number of full blocks that it
-- has passed.
abbrev pub IsSought : Rule → Bool → List ℕ → List ℕ → Sought → Type 0
IsSought rule sensitive dictionary name s = MatchOption s.page (IsAbsentAfter rule sensitive dictionary name s.passed) (λ page. IsFoundAfter rule sensitive dictionary name s.passed page)

-- The bytes of the dictionary, which the header places: blocks of 512 bytes.
abbrev pub dictionary_at : Header → List ℕ → List ℕ
dictionary_at h bytes = take (block_size * h.blocks) (drop h.dictionary bytes)

-- Whether names that differ in case differ: the flag 1.
abbrev pub is_case_sensitive : Header → Bool
is_case_sensitive h = h.flags % 2 == 1

-- The dictionary of a library, or none if a part of it is not there.
abbrev pub IsDictionary : Header → List ℕ → Option Dictionary → Type 0
IsDictionary h bytes result = MatchOption result (length bytes < h.dictionary + block_size * h.blocks)
    (λ (d : Dictionary). (h.dictionary + block_size * h.blocks ≤ length bytes) × (d.bytes.now ≡ dictionary_at h bytes) × (d.is_case_sensitive ≡ is_case_sensitive h))
