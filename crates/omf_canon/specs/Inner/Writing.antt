-- The bytes that a walk over a module's records writes, step by step, with at most one open FIXUPP. Only private functions use these
-- definitions; the contracts of public functions use the definition of the canonical bytes.
use Rattle.std.specs.Prelude.{◌≡◌, ℕ, ◌+◌, ◌≤◌, ⊤, List, [], ◌∷◌, ◌++◌, length, Bool, false, not, ◌&&◌, ◌||◌, ◌==◌, nat_le, Option, Some, None, option_map, Ok, if◌then◌else◌}
use Rattle.omf_frame.specs.Framing.{raw_bytes, raw_of}
use Rattle.omf_records.specs.Inner.Direct.{IsDirect}
use Rattle.omf_records.specs.Shortest.{contents_bytes, subrecord_bytes}
use Rattle.omf_records.specs.Inner.Unread.{Pending, NextGives}
use Rattle.omf_records.specs.Values.{At, Rec, alone, Contents, Fixups, ModEnd, Subrecord, Thread, Fixup}
use Rattle.omf_check.specs.Inner.Kept.{set_thread, threads_after}
use Rattle.omf_check.specs.declared.threads.Threads.{Threads}
use Rattle.omf_reloc.specs.Plain.{Piece, Kept, Fixed, End}
use Rattle.omf_reloc.specs.Inner.Walking.{plain_by, plain_fixup_by}
use Rattle.omf_canon.specs.Inner.Names.{start_bytes, end_byte}
use Rattle.omf_canon.specs.Cut.{body_limit}
use Rattle.omf_canon.specs.PlainBytes.{fixup_bytes}

-- A FIXUPP whose record is not yet written.
pub record Held : Type 0 where
  pub kind : ℕ
  pub body : List ℕ

abbrev pub held : ℕ → List ℕ → Held
held kind body = record { kind = kind; body = body }

-- A record with these contents, and the record of the open FIXUPP, if there is one.
abbrev pub record_bytes : ℕ → List ℕ → List ℕ
record_bytes kind body = raw_bytes (raw_of kind body)

abbrev pub closed : Option Held → List ℕ
closed None = []
closed (Some h) = record_bytes h.kind h.body

-- Whether the open FIXUPP has this type, and room for the bytes of a fixup.
abbrev pub has_room : ℕ → List ℕ → Held → Bool
has_room kind bytes h = (h.kind == kind) && nat_le (length h.body + length bytes) body_limit

-- The bytes of a fixup join the open FIXUPP, or else they close it and open the next.
abbrev pub held_with : ℕ → List ℕ → Option Held → Option Held
held_with kind bytes None = Some (held kind bytes)
held_with kind bytes (Some h) = if has_room kind bytes h then Some (held h.kind (h.body ++ bytes)) else Some (held kind bytes)

abbrev pub closed_by : ℕ → List ℕ → Option Held → List ℕ
closed_by kind bytes None = []
closed_by kind bytes (Some h) = if has_room kind bytes h then [] else record_bytes h.kind h.body

-- The bytes written for one more piece, and the FIXUPP that is open then. A FIXUPP here has one fixup.
abbrev pub piece_puts : Piece → Option Held → List ℕ
piece_puts (Kept r) h = closed h ++ record_bytes r.kind (contents_bytes r.kind r.contents)
piece_puts (Fixed kind []) h = []
piece_puts (Fixed kind (f ∷ fixups)) h = closed_by kind (fixup_bytes kind f) h
piece_puts (End kind byte start) h = closed h ++ record_bytes kind (byte ∷ start_bytes kind start)

abbrev pub piece_held : Piece → Option Held → Option Held
piece_held (Kept r) h = None
piece_held (Fixed kind []) h = h
piece_held (Fixed kind (f ∷ fixups)) h = held_with kind (fixup_bytes kind f) h
piece_held (End kind byte start) h = None

-- A piece can be written: the contents of a kept record have at most 65,534 bytes.
abbrev pub CanPut : Piece → Type 0
CanPut (Kept r) = length (contents_bytes r.kind r.contents) ≤ 65534
CanPut (Fixed kind fixups) = ⊤
CanPut (End kind byte start) = ⊤

-- The bytes left to write for these pieces.
abbrev pub bytes_left : Option Held → List Piece → List ℕ
bytes_left h [] = closed h
bytes_left h (p ∷ ps) = piece_puts p h ++ bytes_left (piece_held p h) ps

-- The pieces of records by the threads in force, each fixup a piece of its own.
abbrev pub subrecord_piece : Threads → ℕ → Subrecord → List Piece
subrecord_piece threads kind (Thread byte datum) = []
subrecord_piece threads kind (Fixup locat r) = Fixed kind (plain_fixup_by threads locat r ∷ []) ∷ []

abbrev pub subrecord_pieces : Threads → ℕ → List (At Subrecord) → List Piece
subrecord_pieces threads kind [] = []
subrecord_pieces threads kind (s ∷ subs) = subrecord_piece threads kind s.item ++ subrecord_pieces (set_thread threads s.item) kind subs

abbrev pub contents_pieces : Threads → ℕ → Contents → List Piece
contents_pieces threads kind (Fixups subs) = subrecord_pieces threads kind subs
contents_pieces threads kind (ModEnd byte start) = End kind (end_byte byte) (option_map (plain_by threads) start) ∷ []
contents_pieces threads kind c = Kept (alone (record { kind = kind; contents = c })) ∷ []

abbrev pub record_pieces : Threads → List Rec → List Piece
record_pieces threads [] = []
record_pieces threads (r ∷ rs) = contents_pieces threads r.kind r.contents ++ record_pieces (threads_after threads r.contents) rs

-- These pieces were written, leading from some bytes and an open FIXUPP to others: with any pieces after them, both lead to the same bytes.
abbrev pub ArePut : List Piece → List ℕ → Option Held → List ℕ → Option Held → Type 0
ArePut ps out group new_out new_group = (rest : List Piece) → new_out ++ bytes_left new_group rest ≡ out ++ bytes_left group (ps ++ rest)

-- The next subrecord names no thread and has no displacement of 0. It was taken: its bytes joined the open FIXUPP.
pub record IsJoined (kind : ℕ) (group grown : Option Held) (old new : Pending Subrecord) : Type 0 where
  pub next : At Subrecord
  pub gives : NextGives old (Ok (Some next)) new
  pub direct : IsDirect next.item
  pub closes : closed_by kind (subrecord_bytes kind next.item) group ≡ []
  pub holds : grown ≡ held_with kind (subrecord_bytes kind next.item) group

-- The types of LEDATA and LIDATA.
abbrev pub is_data : ℕ → Bool
is_data kind = (kind == 0xA0) || ((kind == 0xA1) || ((kind == 0xA2) || (kind == 0xA3)))

-- Whether contents begin with an index in its shortest encoding and have another byte after their first.
abbrev pub begins_short : List ℕ → Bool
begins_short (a ∷ b ∷ rest) = not (a == 128) || nat_le 128 b
begins_short _ = false
