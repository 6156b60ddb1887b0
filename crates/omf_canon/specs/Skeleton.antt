-- The skeleton of a module (this profile's rule): its records with their threads resolved, without what canonical bytes leave out; FIXUPPs
-- without a fixup are dropped, and then adjacent FIXUPPs of one type are joined.
use Rattle.std.specs.Prelude.{◌+◌, ◌*◌, List, [], ◌∷◌, ◌++◌, map, filter, Bool, true, false, ◌==◌, if◌then◌else◌}
use Rattle.omf_frame.specs.Bytes.{bits}
use Rattle.omf_records.specs.Values.{Rec, alone}
use Rattle.omf_reloc.specs.Plain.{Piece, Kept, Fixed, End, pieces}

-- A piece without the places of its items and without ignored bits: of MODEND's module type byte (TIS OMF 1.1, "MODEND") bits 7 and 6 are kept, bit 0
-- is a copy of bit 6, and the ignored bits are 0 (this profile's rule).
abbrev pub normal : Piece → Piece
normal (Kept r) = Kept (alone r)
normal (Fixed kind fs) = Fixed kind fs
normal (End kind byte start) = End kind (128 * bits byte 7 1 + 64 * bits byte 6 1 + bits byte 6 1) start

-- whether a piece is anything but a FIXUPP without fixups
abbrev pub is_kept : Piece → Bool
is_kept (Fixed kind []) = false
is_kept _ = true

-- A joined list with one more piece at its front.
abbrev pub join_front : Piece → List Piece → List Piece
join_front (Fixed kind fs) (Fixed other gs ∷ ps) = if kind == other then Fixed kind (fs ++ gs) ∷ ps else Fixed kind fs ∷ Fixed other gs ∷ ps
join_front p ps = p ∷ ps

abbrev pub joined : List Piece → List Piece
joined [] = []
joined (p ∷ ps) = join_front p (joined ps)

-- The same of some pieces, for laws.
abbrev pub skeleton_of : List Piece → List Piece
skeleton_of ps = joined (filter is_kept ps)

abbrev pub skeleton : List Rec → List Piece
skeleton m = joined (filter is_kept (map normal (pieces m)))
