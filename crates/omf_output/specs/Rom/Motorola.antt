-- Motorola S-records: a type, a count of the bytes that follow it, an address, data and a checksum.
use Rattle.std.specs.Prelude.{ℕ, ◌+◌, ◌-◌, ◌/◌, ◌%◌, ◌^◌, List, [], ◌∷◌, ◌++◌, length, sum, flat_map, codes}
use Rattle.omf_output.specs.declared.rom.srec.SAddress.{SAddress}
use Rattle.omf_output.specs.declared.rom.srec.SAddress.TheVariants.{Bits16, Bits24, Bits32}
use Rattle.omf_output.specs.declared.rom.run.Run.{Run}
use Rattle.omf_output.specs.Rom.Spelled.{line}
use Rattle.omf_output.specs.Rom.Cut.{pieces_of}

-- the ones' complement of the low byte of the sum of the count, the address and the data
abbrev pub complement : List ℕ → ℕ
complement bytes = 255 - sum bytes % 256

-- an address of 2, 3 or 4 bytes, big-endian
abbrev pub address_bytes : SAddress → ℕ → List ℕ
address_bytes Bits16 a = a / 256 % 256 ∷ a % 256 ∷ []
address_bytes Bits24 a = a / 65536 % 256 ∷ a / 256 % 256 ∷ a % 256 ∷ []
address_bytes Bits32 a = a / 16777216 % 256 ∷ a / 65536 % 256 ∷ a / 256 % 256 ∷ a % 256 ∷ []

-- the number of bytes of an address
abbrev pub address_size : SAddress → ℕ
address_size Bits16 = 2
address_size Bits24 = 3
address_size Bits32 = 4

-- the first address that has no record
abbrev pub limit : SAddress → ℕ
limit Bits16 = 2 ^ 16
limit Bits24 = 2 ^ 24
limit Bits32 = 2 ^ 32

-- the digit of the type of data records: S1, S2, S3
abbrev pub data_digit : SAddress → ℕ
data_digit Bits16 = 49
data_digit Bits24 = 50
data_digit Bits32 = 51

-- that of the header record, S0
abbrev pub header_digit : ℕ
header_digit = 48

-- that of the record which ends them and has the start address: S9, S8, S7
abbrev pub end_digit : SAddress → ℕ
end_digit Bits16 = 57
end_digit Bits24 = 56
end_digit Bits32 = 55

-- the bytes of a record before its checksum: the count, which counts the checksum too, the address, the data
abbrev pub record_bytes : SAddress → ℕ → List ℕ → List ℕ
record_bytes width address bytes = (length bytes + 1 + address_size width) ∷ address_bytes width address ++ bytes

-- a record: the letter S, the digit of its type, and its bytes
abbrev pub record_line : ℕ → SAddress → ℕ → List ℕ → List ℕ
record_line digit width address bytes =
    line (83 ∷ digit ∷ []) (record_bytes width address bytes ++ complement (record_bytes width address bytes) ∷ [])

-- the data records of pieces of memory
abbrev pub s_lines : SAddress → List (ℕ × List ℕ) → List ℕ
s_lines width ps = flat_map (λ p. record_line (data_digit width) width p.0 p.1) ps

-- the header record: the address 0 in 16 bits, and the text HDR
abbrev pub header_line : List ℕ
header_line = record_line header_digit Bits16 0 (codes "HDR")

-- The text of runs: the header record, data records, and the record with the start address.
abbrev pub runs_text : SAddress → ℕ → List Run → List ℕ
runs_text width start runs = s_lines width (pieces_of runs) ++ record_line (end_digit width) width start []

abbrev pub s_text : SAddress → ℕ → List Run → List ℕ
s_text width start runs = header_line ++ runs_text width start runs
