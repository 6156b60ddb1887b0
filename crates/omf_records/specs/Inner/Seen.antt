-- A record of the code, as one of the specification.
use Rattle.std.specs.Prelude.{ℕ, ◌+◌, List, [], ◌∷◌, Bool, if◌then◌else◌, Result, Ok, Err}
use Rattle.omf_frame.specs.Types.{row}
use Rattle.omf_frame.specs.declared.kinds.RecordType.{RecordType}
use Rattle.omf_frame.specs.declared.kinds.Width.{Width}
use Rattle.omf_frame.specs.declared.kinds.Width.TheVariants.{Bits16, Bits32}
use Rattle.omf_records.specs.declared.record.Rec.{Rec as CodeRec}
use Rattle.omf_records.specs.declared.record.Rec.TheVariants as code
use Rattle.omf_records.specs.Values.{Contents, Header, Comment, Names, Segment, Group, Externs, Publics, Communals, Plain, Iterated, Fixups, ModEnd, Carried, Rec}

abbrev pub contents_seen : CodeRec → Contents
contents_seen (code.Header kind name) = Header name
contents_seen (code.Comment type_byte class text) = Comment type_byte class text.now
contents_seen (code.Names items) = Names items
contents_seen (code.Segment width segment) = Segment segment
contents_seen (code.Group name members) = Group (record { name = name; members = members })
contents_seen (code.Externs items) = Externs items
contents_seen (code.Publics width group segment frame publics) = Publics (record { group = group; segment = segment; frame = frame; items = publics })
contents_seen (code.Communals items) = Communals items
contents_seen (code.Plain width segment offset bytes) = Plain (record { segment = segment; offset = offset; bytes = bytes.now })
contents_seen (code.Iterated segment offset blocks) = Iterated (record { segment = segment; offset = offset; bytes = blocks.bytes.now })
contents_seen (code.Fixups width subrecords) = Fixups subrecords
contents_seen (code.ModEnd width type_byte start) = ModEnd type_byte start
contents_seen (code.LocalNames items) = Names items
contents_seen (code.LocalExterns odd externs) = Externs externs
contents_seen (code.LocalPublics width group segment frame publics) = Publics (record { group = group; segment = segment; frame = frame; items = publics })
contents_seen (code.LocalCommunals items) = Communals items
contents_seen (code.Carried kind bytes) = Carried bytes.now

-- the odd one of two types, for 32-bit fields
abbrev pub odd_if : Width → ℕ → ℕ
odd_if Bits16 kind = kind
odd_if Bits32 kind = kind + 1

-- 32 bits, or 16
abbrev pub width_if : Bool → Width
width_if wide = if wide then Bits32 else Bits16

-- the byte of a type in a record of a width; the only one, if it has one
abbrev pub byte_in : Width → List ℕ → ℕ
byte_in width [] = 0
byte_in width (a ∷ []) = a
byte_in width (a ∷ b ∷ _) = odd_if width a

abbrev pub type_byte : RecordType → Bool → ℕ
type_byte t wide = byte_in (width_if wide) (row t).bytes

abbrev pub kind_seen : CodeRec → ℕ
kind_seen (code.Header kind name) = kind
kind_seen (code.Comment type_byte class text) = 0x88
kind_seen (code.Names items) = 0x96
kind_seen (code.Segment width segment) = odd_if width 0x98
kind_seen (code.Group name members) = 0x9A
kind_seen (code.Externs items) = 0x8C
kind_seen (code.Publics width group segment frame publics) = odd_if width 0x90
kind_seen (code.Communals items) = 0xB0
kind_seen (code.Plain width segment offset bytes) = odd_if width 0xA0
kind_seen (code.Iterated segment offset blocks) = odd_if blocks.width 0xA2
kind_seen (code.Fixups width subrecords) = odd_if width 0x9C
kind_seen (code.ModEnd width type_byte start) = odd_if width 0x8A
kind_seen (code.LocalNames items) = 0xCA
kind_seen (code.LocalExterns odd externs) = odd_if (width_if odd) 0xB4
kind_seen (code.LocalPublics width group segment frame publics) = odd_if width 0xB6
kind_seen (code.LocalCommunals items) = 0xB8
kind_seen (code.Carried kind bytes) = kind

-- the typed record of a record of the code
abbrev pub rec_seen : CodeRec → Rec
rec_seen r = record { kind = kind_seen r; contents = contents_seen r }

abbrev pub map_ok : {A B E : Type 0} → (A → B) → Result A E → Result B E
map_ok f (Ok x) = Ok (f x)
map_ok f (Err e) = Err e
