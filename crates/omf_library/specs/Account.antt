-- An account of the bytes of a library: each byte is in one region (this profile's rule).
use Rattle.std.specs.Prelude.{◌≡◌, ℕ, ◌+◌, ◌-◌, ◌*◌, ◌<◌, ◌==◌, ◌||◌, List, [], ◌∷◌, ◌++◌, flat_map, length, max, min, nat_lt, slice_index, Option, Some, None, unwrap_or, Result, Ok, Err, if◌then◌else◌}
use Rattle.omf_library.specs.declared.account.Region.{Region}
use Rattle.omf_library.specs.declared.account.RegionKind.{RegionKind}
use Rattle.omf_library.specs.declared.account.RegionKind.TheVariants as kind
use Rattle.omf_library.specs.declared.header.Header.{Header}
use Rattle.omf_library.specs.declared.spans.Span.{Span}
use Rattle.omf_library.specs.declared.spans.SpanFault.{SpanFault}

-- The regions have a byte each, and follow one another from one offset to another: no byte between these is in none of them
-- or in two.
abbrev pub AreAdjacent : List Region → ℕ → ℕ → Type 0
AreAdjacent [] at to = at ≡ to
AreAdjacent (r ∷ rs) at to = (r.offset ≡ at) × (0 < r.length) × AreAdjacent rs (at + r.length) to

-- The bytes up to an offset are of a kind.
pub record Cut : Type 0 where
  pub kind : RegionKind
  pub to : ℕ

abbrev pub cut : RegionKind → ℕ → Cut
cut k to = record { kind = k; to = to }

-- The bytes from one offset up to another, as a region if there are any.
abbrev pub region : RegionKind → ℕ → ℕ → List Region
region k from to = if nat_lt from to then record { kind = k; offset = from; length = to - from } ∷ [] else []

-- Where a region of n bytes that begins at an offset ends: at its cut, but not before it begins, and not after the bytes.
abbrev pub end_of : ℕ → ℕ → Cut → ℕ
end_of n at c = max at (min c.to n)

-- The regions of n bytes from an offset on, with these cuts one after another.
abbrev pub regions : ℕ → ℕ → List Cut → List Region
regions n at [] = []
regions n at (c ∷ cs) = region c.kind at (end_of n at c) ++ regions n (end_of n at c) cs

-- Each member, and the padding before it.
abbrev pub member_cuts : List Span → List Cut
member_cuts members = flat_map (λ m. cut kind.Padding m.offset ∷ cut kind.Member (m.offset + length m.bytes.now) ∷ []) members

-- The offset after the record at an offset, by its length field; bytes that are not there count as 0.
abbrev pub record_end : List ℕ → ℕ → ℕ
record_end bytes at = at + 3 + (slice_index bytes (at + 1) + 256 * slice_index bytes (at + 2))

-- Where the blocks of the dictionary begin and end by the header; none if there are no blocks, or if they begin before the F1H or end after
-- the n bytes.
abbrev pub blocks_end : Header → ℕ
blocks_end h = h.dictionary + 512 * h.blocks

abbrev pub blocks_at : Header → ℕ → ℕ → Option ℕ
blocks_at h end n = if (h.blocks == 0) || (nat_lt h.dictionary end || nat_lt n (blocks_end h)) then None else Some h.dictionary

-- The extended dictionary: the record F2H at an offset, if there is one.
abbrev pub extended_cuts : List ℕ → ℕ → List Cut
extended_cuts bytes at = if slice_index bytes at == 0xF2 then cut kind.Extended (record_end bytes at) ∷ [] else []

-- The dictionary, what is before it, and the extended dictionary after it.
abbrev pub dictionary_cuts : Header → List ℕ → Option ℕ → List Cut
dictionary_cuts h bytes None = []
dictionary_cuts h bytes (Some at) = cut kind.Gap at ∷ cut kind.Dictionary (blocks_end h) ∷ extended_cuts bytes (blocks_end h)

-- The F1H record at an offset, as far as it is before the dictionary; the padding before it; and what is after it.
abbrev pub end_cuts : Header → List ℕ → ℕ → Option ℕ → List Cut
end_cuts h bytes end blocks =
    let limit = unwrap_or blocks (length bytes) in
    cut kind.Padding end ∷ cut kind.End (min (end + 3) limit) ∷ cut kind.Padding (min (record_end bytes end) limit) ∷ dictionary_cuts h bytes blocks

abbrev pub last_cuts : Header → List ℕ → Result ℕ SpanFault → List Cut
last_cuts h bytes (Ok end) = end_cuts h bytes end (blocks_at h end (length bytes))
last_cuts h bytes (Err f) = []

-- The account of a library's bytes: the 10 bytes of the header's fields and the rest of its page; the members; what is from the F1H record on,
-- if there is one; and all that is left.
abbrev pub account : Header → List Span → Result ℕ SpanFault → List ℕ → List Region
account h members end bytes =
    regions (length bytes) 0
    ((cut kind.Header 10 ∷ cut kind.Padding h.page ∷ member_cuts members) ++ (last_cuts h bytes end ++ cut kind.After (length bytes) ∷ []))
