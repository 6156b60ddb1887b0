-- A module's records with their threads resolved, on which reach, the image and the start rest.
use Rattle.std.specs.Prelude.{ℕ, List, [], ◌∷◌, map, flat_map, Option, Some, None, is_some, option_map}
use Rattle.omf_frame.specs.Bytes.{with_before, up_to}
use Rattle.omf_records.specs.Values.{Rec, Contents, Plain, Iterated, DataItem, Fixups, ModEnd, Subrecord, Thread, Fixup}
use Rattle.omf_check.specs.Tables.{subrecords}
use Rattle.omf_check.specs.Threads.{PlainReference, plain}

-- A fixup with its threads resolved: its first two bytes (LOCAT) and its reference, with displacement 0 if the record gives none.
pub record PlainFixup : Type 0 where
  pub locat : ℕ
  pub reference : PlainReference

-- A FIXUPP with its type and its fixups; a MODEND with its type, its module type byte and its start; any other record.
pub data Piece : Type 0 where
  Kept : Rec → Piece
  Fixed : ℕ → List PlainFixup → Piece
  End : ℕ → ℕ → Option PlainReference → Piece

-- The fixups of a FIXUPP, each resolved by all the subrecords before it in the module (TIS OMF 1.1, "FIXUPP": a thread stays in force until
-- it is set again).
abbrev pub plain_fixup : List Subrecord → Subrecord → List PlainFixup
plain_fixup earlier (Thread byte datum) = []
plain_fixup earlier (Fixup locat r) = record { locat = locat; reference = plain earlier r } ∷ []

abbrev pub piece_of : List Subrecord → ℕ → Contents → Piece
piece_of earlier kind (Fixups subs) = Fixed kind (with_before plain_fixup earlier (map (λ s. s.item) subs))
piece_of earlier kind (ModEnd byte start) = End kind byte (option_map (plain earlier) start)
piece_of earlier kind c = Kept (record { kind = kind; contents = c })

-- The pieces of a module, one for each record.
abbrev pub pieces : List Rec → List Piece
pieces m = with_before (λ before r. piece_of (subrecords before) r.kind r.contents ∷ []) [] m

-- The data of a data record, LEDATA or LIDATA.
abbrev pub data_contents : Contents → Option DataItem
data_contents (Plain d) = Some d
data_contents (Iterated d) = Some d
data_contents _ = None

abbrev pub data_of : Piece → Option DataItem
data_of (Kept r) = data_contents r.contents
data_of _ = None

-- The fixups of a piece, each with the type of its FIXUPP.
abbrev pub fixups_in : Piece → List (ℕ × PlainFixup)
fixups_in (Fixed kind fixups) = map (λ f. (kind, f)) fixups
fixups_in _ = []

-- The fixups of a data record, in file order: those of all FIXUPPs before the next data record.
abbrev pub fixups_of_data : List Piece → List (ℕ × PlainFixup)
fixups_of_data after = flat_map fixups_in (up_to (λ p. is_some (data_of p)) after)
