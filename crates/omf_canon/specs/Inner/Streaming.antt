-- Canonical records in one walk over the pieces, with at most one group of fixups open: the steps of a writer.
use Rattle.std.specs.Prelude.{ℕ, List, [], ◌∷◌, ◌++◌, flat_map, Option, Some, None, ◌==◌, nat_le, if◌then◌else◌}
use Rattle.omf_frame.specs.Framing.{Raw, raw_of}
use Rattle.omf_reloc.specs.Plain.{Piece, Kept, Fixed, End, PlainFixup}
use Rattle.omf_canon.specs.Canonical.{piece_raws}
use Rattle.omf_canon.specs.Cut.{body_limit, fixups_size}
use Rattle.omf_canon.specs.PlainBytes.{fixup_bytes}

abbrev pub group_raw : ℕ → List PlainFixup → Raw
group_raw kind g = raw_of kind (flat_map (fixup_bytes kind) g)

-- The open group, if there is one: its type and its fixups. And the record that closes it.
abbrev pub Open : Type 0
Open = Option (ℕ × List PlainFixup)

abbrev pub close : Open → List Raw
close None = []
close (Some (kind, g)) = group_raw kind g ∷ []

-- A fixup joins the open group if the group has its type and room for it; otherwise it closes the group and opens the next.
abbrev pub open_with : ℕ → Open → PlainFixup → Open
open_with kind None f = Some (kind, f ∷ [])
open_with kind (Some (k, g)) f = if k == kind then (if nat_le (fixups_size k (g ++ f ∷ [])) body_limit then Some (k, g ++ f ∷ []) else Some (kind, f ∷ [])) else Some (kind, f ∷ [])

abbrev pub closed_by : ℕ → Open → PlainFixup → List Raw
closed_by kind None f = []
closed_by kind (Some (k, g)) f = if k == kind then (if nat_le (fixups_size k (g ++ f ∷ [])) body_limit then [] else group_raw k g ∷ []) else group_raw k g ∷ []

abbrev pub open_after : ℕ → Open → List PlainFixup → Open
open_after kind o [] = o
open_after kind o (f ∷ fs) = open_after kind (open_with kind o f) fs

abbrev pub closed_all : ℕ → Open → List PlainFixup → List Raw
closed_all kind o [] = []
closed_all kind o (f ∷ fs) = closed_by kind o f ++ closed_all kind (open_with kind o f) fs

abbrev pub streamed : Open → List Piece → List Raw
streamed o [] = close o
streamed o (Fixed kind fs ∷ ps) = closed_all kind o fs ++ streamed (open_after kind o fs) ps
streamed o (Kept r ∷ ps) = close o ++ (piece_raws (Kept r) ++ streamed None ps)
streamed o (End kind byte s ∷ ps) = close o ++ (piece_raws (End kind byte s) ++ streamed None ps)
