-- The pattern of a module: what is known of its image before it is placed. By omf_reloc, the image has at each place the byte of the last
-- data record that covers it, after the fixups of that record. So has the pattern, before them; and a byte is open if a location of one of
-- those fixups touches it.
use Rattle.std.specs.Prelude.{ℕ, ◌-◌, List, [], ◌∷◌, filter_map, Bool, ◌&&◌, nat_le, nat_lt, Option, option_map}
use Rattle.std.specs.List.{list_any}
use Rattle.omf_frame.specs.Bytes.{with_after, last}
use Rattle.omf_records.specs.Values.{Rec, Contents, Plain, Iterated, width, location_offset}
-- computed: blocks_are_read and lengths_are_decided of omf_image.
use Rattle.omf_image.specs.Inner.Expanding.{expanded}
use Rattle.omf_image.specs.Overlay.{Laid, byte_of}
use Rattle.omf_image.specs.declared.limits.Limits.{Limits}
use Rattle.omf_reloc.specs.Laws.{location_end}
use Rattle.omf_reloc.specs.Plain.{Piece, Kept, PlainFixup, pieces, fixups_of_data}
use Rattle.omf_finding.specs.declared.patterning.PatternByte.{PatternByte}

-- A data record that is not placed: the bytes that it lays, those of an LIDATA expanded; and its fixups.
pub record Unplaced : Type 0 where
  pub laid : Laid
  pub fixups : List (ℕ × PlainFixup)

abbrev pub unplaced_contents : Limits → ℕ → Contents → List Piece → List Unplaced
unplaced_contents limits kind (Plain d) after = record { laid = record { segment = d.segment.item; offset = d.offset.item; bytes = d.bytes }; fixups = fixups_of_data after } ∷ []
unplaced_contents limits kind (Iterated d) after = record { laid = record { segment = d.segment.item; offset = d.offset.item; bytes = expanded (width kind) limits d.bytes }; fixups = fixups_of_data after } ∷ []
unplaced_contents limits kind _ after = []

abbrev pub unplaced_piece : Limits → Piece → List Piece → List Unplaced
unplaced_piece limits (Kept r) after = unplaced_contents limits r.kind r.contents after
unplaced_piece limits _ after = []

-- All of a module's, in file order.
abbrev pub unplaced : Limits → List Piece → List Unplaced
unplaced limits ps = with_after (unplaced_piece limits) ps

-- A location of a fixup touches byte x of the data.
abbrev pub touches : ℕ → ℕ × PlainFixup → Bool
touches x f = nat_le (location_offset f.1.locat) x && nat_lt x (location_end f)

abbrev pub is_open : List (ℕ × PlainFixup) → ℕ → Bool
is_open fixups x = list_any (touches x) fixups

-- What one data record has at offset x of a segment, if it covers that place.
abbrev pub pattern_by : ℕ → ℕ → Unplaced → Option PatternByte
pattern_by segment x u = option_map (λ b. record { value = b; is_open = is_open u.fixups (x - u.laid.offset) }) (byte_of segment x u.laid)

-- What the last data record has that covers the place.
abbrev pub pattern_at : List Unplaced → ℕ → ℕ → Option PatternByte
pattern_at us segment x = last (filter_map (pattern_by segment x) us)

abbrev pub pattern : Limits → List Rec → ℕ → ℕ → Option PatternByte
pattern limits m segment x = pattern_at (unplaced limits (pieces m)) segment x
