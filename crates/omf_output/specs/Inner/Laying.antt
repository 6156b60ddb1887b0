-- Data records put in bytes from address 0 on, and their fixups applied there, one piece after the other.
use Rattle.std.specs.Prelude.{ℕ, ◌+◌, ◌<◌, ◌≤◌, nat_lt, List, [], ◌∷◌, ◌++◌, length, take, drop, map, flat_map, fold, All, Option, Some, None, ⊤}
use Rattle.omf_records.specs.Values.{Contents, Plain, Iterated, Rec, width, location_offset}
use Rattle.omf_image.specs.Inner.Expanding.{expanded}
use Rattle.omf_image.specs.Limits.{profile_limits}
use Rattle.omf_image.specs.Painting.{Fits}
use Rattle.omf_image.specs.declared.painting.Extent.{Extent}
use Rattle.omf_placement.specs.Placement.{Places}
use Rattle.omf_reloc.specs.Image.{added}
use Rattle.omf_reloc.specs.Inner.Measuring.{CanMeasure, measured}
use Rattle.omf_reloc.specs.Inner.Walking.{Expands}
use Rattle.omf_reloc.specs.Laws.{location_end}
use Rattle.omf_reloc.specs.Offsets.{outcome_at}
use Rattle.omf_reloc.specs.Plain.{Piece, Kept, Fixed, End, PlainFixup}
use Rattle.omf_check.specs.Module.{recs_of}
use Rattle.omf_output.specs.Exe.Filled.{only_if}
use Rattle.omf_output.specs.Exe.Members.{Member}
use Rattle.omf_output.specs.Exe.Memory.{segment_address}

-- The last data record, if it is an LEDATA: its segment, and the offset of its first byte there. The blocks of an LIDATA have no fixups.
abbrev pub Source : Type 0
Source = Option (ℕ × ℕ)

abbrev pub source_in : Contents → Source → Source
source_in (Plain d) last = Some (d.segment.item, d.offset.item)
source_in (Iterated d) last = None
source_in _ last = last

abbrev pub source_after : Piece → Source → Source
source_after (Kept r) last = source_in r.contents last
source_after (Fixed kind fixups) last = last
source_after (End kind byte start) last = last

-- The address of an offset of a segment.
abbrev pub address_at : Places → ℕ → ℕ → ℕ
address_at pl segment offset = segment_address pl segment + offset

-- Bytes at an address in place of those that were there.
abbrev pub overlaid : ℕ → List ℕ → List ℕ → List ℕ
overlaid at new bytes = take at bytes ++ new ++ drop (at + length new) bytes

abbrev pub with_data : Places → ℕ → Contents → List ℕ → List ℕ
with_data pl kind (Plain d) bytes = overlaid (address_at pl d.segment.item d.offset.item) d.bytes bytes
with_data pl kind (Iterated d) bytes = overlaid (address_at pl d.segment.item d.offset.item) (expanded (width kind) profile_limits d.bytes) bytes
with_data pl kind _ bytes = bytes

-- A fixup of the last data record applied where its data are.
abbrev pub fixed_at : Places → ℕ × ℕ → List ℕ → ℕ × PlainFixup → List ℕ
fixed_at pl o bytes f = added (address_at pl o.0 o.1 + location_offset f.1.locat) (outcome_at pl o.0 o.1 f) bytes

abbrev pub fixed_by : Places → Source → List (ℕ × PlainFixup) → List ℕ → List ℕ
fixed_by pl None fixups bytes = bytes
fixed_by pl (Some o) fixups bytes = fold (fixed_at pl o) bytes fixups

abbrev pub laid_by : Places → Source → Piece → List ℕ → List ℕ
laid_by pl last (Kept r) bytes = with_data pl r.kind r.contents bytes
laid_by pl last (Fixed kind fixups) bytes = fixed_by pl last (map (λ f. (kind, f)) fixups) bytes
laid_by pl last (End kind byte start) bytes = bytes

abbrev pub all_laid : Places → Source → List Piece → List ℕ → List ℕ
all_laid pl last [] bytes = bytes
all_laid pl last (p ∷ ps) bytes = all_laid pl (source_after p last) ps (laid_by pl last p bytes)

-- A piece can be laid in n bytes: its data, if there are any, or the location of its fixup, end there.
abbrev pub DataFit : Places → ℕ → ℕ → Contents → Type 0
DataFit pl n kind (Plain d) = 0 < length d.bytes → address_at pl d.segment.item d.offset.item + length d.bytes ≤ n
DataFit pl n kind (Iterated d) = Expands kind d.bytes × (0 < length (expanded (width kind) profile_limits d.bytes) → address_at pl d.segment.item d.offset.item + length (expanded (width kind) profile_limits d.bytes) ≤ n)
DataFit pl n kind _ = ⊤

abbrev pub FixupFits : Places → ℕ → Source → ℕ × PlainFixup → Type 0
FixupFits pl n None f = ⊤
FixupFits pl n (Some o) f = address_at pl o.0 o.1 + location_end f ≤ n

abbrev pub CanLay : Places → ℕ → Source → Piece → Type 0
CanLay pl n last (Kept r) = DataFit pl n r.kind r.contents
CanLay pl n last (Fixed kind fixups) = All (FixupFits pl n last) (map (λ f. (kind, f)) fixups)
CanLay pl n last (End kind byte start) = ⊤

abbrev pub AllCanLay : Places → ℕ → Source → List Piece → Type 0
AllCanLay pl n last [] = ⊤
AllCanLay pl n last (p ∷ ps) = CanLay pl n last p × AllCanLay pl n (source_after p last) ps

-- The first address after an extent; and after the data of a record, if it is a data record.
abbrev pub extent_end : Places → Extent → ℕ
extent_end pl e = address_at pl e.segment e.first + e.len

-- A record has an extent if it is a data record, and its offsets have 32 bits.
abbrev pub CanEnd : Rec → Type 0
CanEnd r = CanMeasure r × All Fits (measured r)

-- None after a record that has no bytes.
abbrev pub end_of : Places → Extent → List ℕ
end_of pl e = only_if (nat_lt 0 e.len) (extent_end pl e)

abbrev pub record_ends : Places → Rec → List ℕ
record_ends pl r = flat_map (end_of pl) (measured r)

-- The data of a module end in n bytes.
abbrev pub EndsIn : ℕ → Member → Type 0
EndsIn n m = All (λ x. x ≤ n) (flat_map (record_ends m.places) (recs_of m.bytes))
