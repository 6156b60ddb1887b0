-- Definitions for the worked examples.
use Rattle.std.specs.Prelude.{◌≡◌, ℕ, List, ◌++◌, flat_map, Some, codes}
use Rattle.omf_frame.specs.Framing.{raw_bytes}
use Rattle.omf_frame.specs.Rows.{hex}
use Rattle.omf_frame.specs.declared.fault.Reason.{Reason}
use Rattle.omf_check.specs.Module.{records_in}
use Rattle.omf_check.specs.Rows.{H, N, S, L}
use Rattle.omf_records.specs.Layout.{fault}
use Rattle.omf_lowering.specs.Lowering.{lowered_records, fault_at}

-- The bytes of the records, lowered.
abbrev pub lowers : List ℕ → List ℕ
lowers bytes = flat_map raw_bytes (lowered_records (records_in bytes))

-- A record after others is refused for this reason at this place in it.
abbrev pub Refuses : List ℕ → List ℕ → ℕ → Reason → Type 0
Refuses before record_bytes within why = fault_at (records_in before) record_bytes ≡ Some (fault within why)

-- a header, the names "" and T, a segment T of 4 bytes, and its data B8 00 00 90
abbrev pub front : List ℕ
front = H ++ N ++ S ++ L

-- 1234H is added to the word at offset 1
abbrev pub word : List ℕ
word = hex (codes "B2 07 00 01 01 01 00 34 12 FE")

-- two bytes AA at offset 0, repeated
abbrev pub two_bytes : List ℕ
two_bytes = hex (codes "A2 0A 00 01 00 00 02 00 00 00 01 AA A6")

-- a header, the names "", T, f and CODE, and a segment T of 4 bytes
abbrev pub base : List ℕ
base = H ++ hex (codes "96 0B 00 00 01 54 01 66 04 43 4F 44 45 84") ++ S

-- a COMDAT f with the data B8 00 00 and the base T, at words; any of its name may be selected
abbrev pub f : List ℕ
f = hex (codes "C2 0D 00 00 10 02 00 00 00 00 01 03 B8 00 00 63")

-- the SEGDEF of f
abbrev pub f_segment : List ℕ
f_segment = hex (codes "99 09 00 48 03 00 00 00 02 01 01 0F")

-- the PUBDEF of f
abbrev pub f_public : List ℕ
f_public = hex (codes "91 0A 00 00 02 01 66 00 00 00 00 00 FC")

-- the mark of f, of which any may be selected
abbrev pub f_mark : List ℕ
f_mark = hex (codes "88 0A 00 80 DC 43 4F 4D 44 41 54 01 59")

-- the LEDATA of f
abbrev pub f_data : List ℕ
f_data = hex (codes "A0 07 00 02 00 00 B8 00 00 9F")

-- a second COMDAT, with the name CODE
abbrev pub g : List ℕ
g = hex (codes "C2 0D 00 00 10 02 00 00 00 00 01 04 B8 00 00 62")

-- what replaces it after f
abbrev pub g_made : List ℕ
g_made = hex (codes "99 09 00 48 03 00 00 00 02 01 01 0F") ++ hex (codes "91 0D 00 00 03 04 43 4F 44 45 00 00 00 00 00 40") ++ f_mark ++ hex (codes "A0 07 00 03 00 00 B8 00 00 9E")

-- an LLNAMES with the name u, which has index 5 after the base
abbrev pub u : List ℕ
u = hex (codes "CA 03 00 01 75 BD")

-- the LPUBDEF of a COMDAT u
abbrev pub u_public : List ℕ
u_public = hex (codes "B7 0A 00 00 02 01 75 00 00 00 00 00 C7")
