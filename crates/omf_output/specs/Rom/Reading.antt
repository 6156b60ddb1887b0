-- What texts mean: each byte with its address.
use Rattle.std.specs.Prelude.{ℕ, ◌+◌, ◌*◌, ◌/◌, ◌%◌, ◌<◌, ◌≤◌, List, [], ◌∷◌, ◌++◌, length}
use Rattle.omf_frame.specs.Bytes.{AreBytes}
use Rattle.omf_output.specs.declared.rom.srec.SAddress.{SAddress}
use Rattle.omf_output.specs.declared.rom.srec.SAddress.TheVariants.{Bits16}
use Rattle.omf_output.specs.Rom.IntelHex.{record_line as hex_line, end_line}
use Rattle.omf_output.specs.Rom.Motorola.{data_digit, end_digit, header_digit, limit, record_line as s_line}
use Rattle.omf_output.specs.Rom.Runs.{placed}

-- Intel HEX after a record that gave the base address `first`. A data record has up to 255 bytes, whose offsets are below 64 KB; a segment is
-- 16 times its number, an upper linear address 65,536 times; after the end of file record there is nothing.
pub data MeansHex : ℕ → List ℕ → List (ℕ × ℕ) → Type 0 where
  bytes_at : (first offset : ℕ) (bytes text : List ℕ) (memory : List (ℕ × ℕ)) → AreBytes bytes → length bytes ≤ 255 → offset + length bytes ≤ 65536
      → MeansHex first text memory → MeansHex first (hex_line (length bytes ∷ offset / 256 ∷ offset % 256 ∷ 0 ∷ bytes) ++ text) (placed (first + offset) bytes ++ memory)
  segment_base : (first number : ℕ) (text : List ℕ) (memory : List (ℕ × ℕ)) → number < 65536
      → MeansHex (16 * number) text memory → MeansHex first (hex_line (2 ∷ 0 ∷ 0 ∷ 2 ∷ number / 256 ∷ number % 256 ∷ []) ++ text) memory
  linear_base : (first number : ℕ) (text : List ℕ) (memory : List (ℕ × ℕ)) → number < 65536
      → MeansHex (65536 * number) text memory → MeansHex first (hex_line (2 ∷ 0 ∷ 0 ∷ 4 ∷ number / 256 ∷ number % 256 ∷ []) ++ text) memory
  hex_ends : (first : ℕ) → MeansHex first end_line []

-- S-records with addresses of one width: data records, and then the record with the start address. A header record (S0) has up to 252 bytes of any text, and
-- none of the memory.
pub data MeansS (width : SAddress) (start : ℕ) : List ℕ → List (ℕ × ℕ) → Type 0 where
  s_bytes_at : (address : ℕ) (bytes text : List ℕ) (memory : List (ℕ × ℕ)) → AreBytes bytes → length bytes ≤ 250 → address + length bytes ≤ limit width
      → MeansS width start text memory → MeansS width start (s_line (data_digit width) width address bytes ++ text) (placed address bytes ++ memory)
  s_header : (bytes text : List ℕ) (memory : List (ℕ × ℕ)) → AreBytes bytes → length bytes ≤ 252
      → MeansS width start text memory → MeansS width start (s_line header_digit Bits16 0 bytes ++ text) memory
  s_ends : MeansS width start (s_line (end_digit width) width start []) []
