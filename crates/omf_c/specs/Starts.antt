-- The start of a module as a reference (TIS OMF 1.1, "MODEND"; the form of its row is this profile's rule).
use Rattle.std.specs.Prelude.{ℕ, ◌*◌, List, [], ◌∷◌, flat_map, nat_le, Option, Some, None}
use Rattle.omf_frame.specs.declared.fault.Place.{Place}
use Rattle.omf_frame.specs.Framing.{Raw}
use Rattle.omf_records.specs.Methods.{kind_number}
use Rattle.omf_records.specs.Values.{width}
use Rattle.omf_check.specs.Listed.{placed_from}
use Rattle.omf_check.specs.Threads.{PlainReference}
use Rattle.omf_reloc.specs.Plain.{Piece, End}
-- computed: what `pieces_of` of omf_reloc gives, whose contract ties them to the module's pieces.
use Rattle.omf_reloc.specs.Inner.Pieces.{placed_pieces}
use Rattle.omf_c.specs.Fixups.{frame_index, frame_number}
use Rattle.omf_c.specs.Tables.{flag}
use Rattle.omf_c.specs.declared.rows.StartReferenceRow.{StartReferenceRow}

-- A module that names no start. Bit 7 of the module type is set in a main module.
abbrev pub without_start : Place → ℕ → StartReferenceRow
without_start p byte = record {
  is_main = flag (nat_le 128 byte);
  has_start = 0;
  frame_method = 0;
  frame_index = 0;
  target_method = 0;
  target_index = 0;
  displacement = 0;
  bits = 0;
  number = p.number;
  within = p.within;
}

-- One that names this start, in a MODEND of a type.
abbrev pub with_start : Place → ℕ → ℕ → PlainReference → StartReferenceRow
with_start p kind byte r = record (without_start p byte) {
  has_start = 1;
  frame_method = frame_number r.frame;
  frame_index = frame_index r.frame;
  target_method = kind_number r.target.kind;
  target_index = r.target.index;
  displacement = r.displacement;
  bits = 8 * width kind;
}

abbrev pub end_row : Place → ℕ → ℕ → Option PlainReference → StartReferenceRow
end_row p kind byte None = without_start p byte
end_row p kind byte (Some r) = with_start p kind byte r

abbrev pub end_rows : Place → Piece → List StartReferenceRow
end_rows p (End kind byte start) = end_row p kind byte start ∷ []
end_rows p _ = []

-- The row of the MODEND of a module.
abbrev pub start_references : List Raw → List StartReferenceRow
start_references records = flat_map (λ x. end_rows x.0 x.1) (placed_pieces (placed_from 0 0 records))
