-- Members by the lengths of their records alone, so that a member that the check of modules refuses has an end too (this
-- profile's rule).
use Rattle.std.specs.Prelude.{◌≡◌, ◌≢◌, ⊤, ℕ, ◌+◌, ◌≤◌, ◌<◌, Bool, true, false, IsTrue, List, [], ◌∷◌, ◌++◌, length, drop, flat_map, slice_index, Option, Some, None, Result, Ok, Err}
use Rattle.omf_frame.specs.Framing.{is_end, is_header}
use Rattle.omf_library.specs.Library.{library_end, next_page, word_at}
use Rattle.omf_library.specs.declared.spans.Page.{Page}
use Rattle.omf_library.specs.declared.spans.Page.TheVariants as there
use Rattle.omf_library.specs.declared.spans.Span.{Span}
use Rattle.omf_library.specs.declared.spans.SpanFault.{SpanFault}
use Rattle.omf_library.specs.declared.spans.SpanFault.TheVariants as fault

-- Bytes that are one record by its length: a type byte, a length of two bytes, and this number of bytes.
abbrev pub IsStretch : List ℕ → Type 0
IsStretch bytes = (3 ≤ length bytes) × (length bytes ≡ 3 + word_at bytes 1)

-- The record ends a module: its type is that of a MODEND.
abbrev pub ends_module : List ℕ → Bool
ends_module record_bytes = is_end (slice_index record_bytes 0)

-- Records that do not end a module.
abbrev pub AreInner : List (List ℕ) → Type 0
AreInner [] = ⊤
AreInner (r ∷ rs) = IsStretch r × (ends_module r ≡ false) × AreInner rs

abbrev pub joined : List (List ℕ) → List ℕ
joined records = flat_map (λ r. r) records

-- No record is all there.
abbrev pub IsShort : List ℕ → Type 0
IsShort bytes = (first rest : List ℕ) → bytes ≡ first ++ rest → IsStretch first → ⊥

-- The first record of bytes and what follows it, or none if it is not all there.
abbrev pub IsSplit : List ℕ → Option (List ℕ × List ℕ) → Type 0
IsSplit bytes None = IsShort bytes
IsSplit bytes (Some parts) = (bytes ≡ parts.0 ++ parts.1) × IsStretch parts.0

-- The bytes begin with a module by the lengths of its records alone: its last record is its first MODEND.
pub record BeginsWithModule (bytes found : List ℕ) : Type 0 where
  pub before : List (List ℕ)
  pub last : List ℕ
  pub rest : List ℕ
  pub inner : AreInner before
  pub whole : IsStretch last
  pub ended : ends_module last ≡ true
  pub found_is : found ≡ joined before ++ last
  pub spelled : bytes ≡ found ++ rest

-- The bytes end inside a module, whose record at the offset `within` is not all there.
pub record EndsInModule (bytes : List ℕ) (within : ℕ) : Type 0 where
  pub before : List (List ℕ)
  pub rest : List ℕ
  pub inner : AreInner before
  pub short : IsShort rest
  pub spelled : bytes ≡ joined before ++ rest
  pub there : within ≡ length (joined before)

-- The first module of bytes, or the offset of a record that is not all there.
abbrev pub IsFirstModule : List ℕ → Result (List ℕ) ℕ → Type 0
IsFirstModule bytes (Ok found) = BeginsWithModule bytes found
IsFirstModule bytes (Err within) = EndsInModule bytes within

-- Members one after another, as in `AreMembers`: the first at the offset `at`, each next at the first page after the one
-- before; and the first page after the last of them is at `to`. Each begins with a THEADR or an LHEADR.
abbrev pub AreSpans : List ℕ → ℕ → ℕ → List Span → ℕ → Type 0
AreSpans bytes page at [] to = at ≡ to
AreSpans bytes page at (m ∷ ms) to = (m.offset ≡ at) × IsTrue (is_header (slice_index bytes at)) × BeginsWithModule (drop at bytes) m.bytes.now × AreSpans bytes page (next_page page (at + length m.bytes.now)) ms to

-- What is at a page after this number of members: F1H, or what is there in its place.
abbrev pub IsSpansEnd : List ℕ → ℕ → ℕ → Result ℕ SpanFault → Type 0
IsSpansEnd bytes count at (Ok end) = (end ≡ at) × (slice_index bytes at ≡ library_end)
IsSpansEnd bytes count at (Err (fault.NoEnd offset member)) = (offset ≡ at) × (member ≡ count) × (length bytes ≤ at)
IsSpansEnd bytes count at (Err (fault.NoMember offset member)) = (offset ≡ at) × (member ≡ count) × (at < length bytes) × (slice_index bytes at ≢ library_end) × (is_header (slice_index bytes at) ≡ false)
IsSpansEnd bytes count at (Err (fault.MemberCut offset member)) = (member ≡ count) × IsTrue (is_header (slice_index bytes at)) × (within : ℕ) × EndsInModule (drop at bytes) within × (offset ≡ at + within)

-- What a page has after this number of members.
abbrev pub IsPage : List ℕ → ℕ → ℕ → Page → Type 0
IsPage bytes count at (there.Member found) = IsTrue (is_header (slice_index bytes at)) × BeginsWithModule (drop at bytes) found.now × (0 < length found.now) × (at + length found.now ≤ length bytes)
IsPage bytes count at there.End = slice_index bytes at ≡ library_end
IsPage bytes count at (there.Fault f) = IsSpansEnd bytes count at (Err f)

-- The members of bytes with this page size, and how they end: the members from the second page on, up to the first page
-- that begins with F1H, or where no member is.
pub record AreSpansIn (bytes : List ℕ) (page : ℕ) (members : List Span) (end : Result ℕ SpanFault) : Type 0 where
  pub to : ℕ
  pub spans : AreSpans bytes page page members to
  pub ended : IsSpansEnd bytes (length members) to end
