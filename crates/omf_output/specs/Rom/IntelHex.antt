-- Intel HEX (Intel, Hexadecimal Object File Format Specification, 1988): records of a length, an offset, a type and data.
use Rattle.std.specs.Prelude.{ℕ, ◌-◌, ◌*◌, ◌/◌, ◌%◌, ◌^◌, ◌==◌, List, [], ◌∷◌, ◌++◌, length, sum, if◌then◌else◌}
use Rattle.omf_output.specs.declared.rom.hex.HexBase.{HexBase}
use Rattle.omf_output.specs.declared.rom.hex.HexBase.TheVariants.{Linear, Segment}
use Rattle.omf_output.specs.declared.rom.run.Run.{Run}
use Rattle.omf_output.specs.Rom.Spelled.{line}
use Rattle.omf_output.specs.Rom.Cut.{pieces_of}

-- CHKSUM: the sum of all bytes of a record is 0 modulo 256
abbrev pub checksum : List ℕ → ℕ
checksum bytes = (256 - sum bytes % 256) % 256

-- a record: the record mark, a colon, and its bytes with the checksum
abbrev pub record_line : List ℕ → List ℕ
record_line bytes = line (58 ∷ []) (bytes ++ checksum bytes ∷ [])

-- a data record (RECTYP 00): RECLEN, LOAD OFFSET (big-endian), RECTYP, the data
abbrev pub data_line : ℕ → List ℕ → List ℕ
data_line address bytes = record_line (length bytes ∷ address / 256 % 256 ∷ address % 256 ∷ 0 ∷ bytes)

-- where the 64 KB of number `upper` begin: an extended linear address record (RECTYP 04) with the upper 16 bits, or an extended segment address
-- record (02) with the address divided by 16
abbrev pub base_line : HexBase → ℕ → List ℕ
base_line Linear upper = record_line (2 ∷ 0 ∷ 0 ∷ 4 ∷ upper / 256 ∷ upper % 256 ∷ [])
base_line Segment upper = record_line (2 ∷ 0 ∷ 0 ∷ 2 ∷ upper * 16 ∷ 0 ∷ [])

-- the first address that has no record: 4 GB, or 1 MB with segments
abbrev pub limit : HexBase → ℕ
limit Linear = 2 ^ 32
limit Segment = 2 ^ 20

-- the end of file record (RECTYP 01)
abbrev pub end_line : List ℕ
end_line = record_line (0 ∷ 0 ∷ 0 ∷ 1 ∷ [])

-- pieces of memory, after the record for the 64 KB of number `upper`: a piece in others has the record of those before it
abbrev pub hex_lines : HexBase → ℕ → List (ℕ × List ℕ) → List ℕ
hex_lines base upper [] = []
hex_lines base upper (p ∷ ps) =
    (if p.0 / 65536 == upper then [] else base_line base (p.0 / 65536)) ++ data_line p.0 p.1 ++ hex_lines base (p.0 / 65536) ps

-- The text of runs: addresses begin in the first 64 KB, and an end of file record follows.
abbrev pub hex_text : HexBase → List Run → List ℕ
hex_text base runs = hex_lines base 0 (pieces_of runs) ++ end_line
