-- A memory as a file for a chip (this profile's rule). The memory is segment 0 of an image, and its addresses are the offsets there.
use Rattle.std.specs.Prelude.{ℕ, ◌≡◌, ◌⊎◌, ◌+◌, ◌<◌, ◌≤◌, ⊤, List, length, map, All, Option, IsSome, Result, Ok, Err, slice_index, unwrap_or}
-- computed, and proved equal to the rule: runs_are_maximal of omf_image.
use Rattle.omf_image.specs.Inner.Joined.{runs_of}
use Rattle.omf_image.specs.Overlay.{AreBytesOver, Laid, byte_at, spanned}
use Rattle.omf_image.specs.declared.run.Run.{Run as Interval}
use Rattle.omf_output.specs.declared.rom.form.Chip.{Chip}
use Rattle.omf_output.specs.declared.rom.form.Form.{Form}
use Rattle.omf_output.specs.declared.rom.form.Form.TheVariants as form
use Rattle.omf_output.specs.declared.rom.hex.HexBase.{HexBase}
use Rattle.omf_output.specs.declared.rom.memory.FileFault.{FileFault}
use Rattle.omf_output.specs.declared.rom.memory.FileFault.TheVariants as fault
use Rattle.omf_output.specs.declared.rom.run.Run.{Run}
use Rattle.omf_output.specs.declared.rom.srec.SAddress.{SAddress}
use Rattle.omf_output.specs.Rom.IntelHex.{hex_text, limit as hex_limit}
use Rattle.omf_output.specs.Rom.Motorola.{limit as s_limit, s_text}
use Rattle.omf_output.specs.Rom.Reading.{MeansHex, MeansS}
use Rattle.omf_output.specs.Rom.Runs.{memory}

-- ---- the addresses that a file can have

-- the first of them, and the first after them
abbrev pub low : Form → ℕ
low (form.Binary c) = c.base
low (form.Hex base) = 0
low (form.SRecords width) = 0

abbrev pub high : Form → ℕ
high (form.Binary c) = c.base + c.size
high (form.Hex base) = hex_limit base
high (form.SRecords width) = s_limit width

-- an address is one of them
abbrev pub IsInside : Form → ℕ → Type 0
IsInside f a = (low f ≤ a) × (a < high f)

abbrev pub IsOutside : Form → ℕ → Type 0
IsOutside f a = (a < low f) ⊎ (high f ≤ a)

-- each byte of a memory is at one of them
abbrev pub FitsIn : Form → (ℕ → Option ℕ) → Type 0
FitsIn f byte = (a : ℕ) → IsSome (byte a) → IsInside f a

-- the lowest address with a byte of the memory that is none of them
pub record IsFirstOutside (f : Form) (byte : ℕ → Option ℕ) (a : ℕ) : Type 0 where
  pub some : IsSome (byte a)
  pub outside : IsOutside f a
  pub before : (x : ℕ) → x < a → IsSome (byte x) → IsInside f x

-- ---- the file

-- the addresses of a run
abbrev pub interval : Run → Interval
interval r = spanned r.address r.bytes.now

-- the runs of a memory: its maximal covered intervals in rising order, each with its bytes
pub record AreRunsOf (image : List Laid) (runs : List Run) : Type 0 where
  pub intervals : map interval runs ≡ runs_of image 0
  pub bytes : All (λ r. AreBytesOver (byte_at image 0) (interval r) r.bytes.now) runs

-- a raw binary: the byte at each address of the chip, or the fill
pub record IsBinary (c : Chip) (byte : ℕ → Option ℕ) (file : List ℕ) : Type 0 where
  pub size : length file ≡ c.size
  pub each : (i : ℕ) → i < c.size → slice_index file i ≡ unwrap_or (byte (c.base + i)) c.fill

-- Intel HEX: the text of the runs; it means each byte at its address, and no other
pub record IsHex (base : HexBase) (image : List Laid) (file : List ℕ) : Type 0 where
  pub runs : List Run
  pub all : AreRunsOf image runs
  pub text : file ≡ hex_text base runs
  pub means : MeansHex 0 file (memory runs)

-- S-records, the same. Their start address is 0.
pub record IsSRecords (width : SAddress) (image : List Laid) (file : List ℕ) : Type 0 where
  pub runs : List Run
  pub all : AreRunsOf image runs
  pub text : file ≡ s_text width 0 runs
  pub means : MeansS width 0 file (memory runs)

-- the file of a memory
abbrev pub IsFile : Form → List Laid → List ℕ → Type 0
IsFile (form.Binary c) image file = IsBinary c (byte_at image 0) file
IsFile (form.Hex base) image file = IsHex base image file
IsFile (form.SRecords width) image file = IsSRecords width image file

-- The file of a memory, all of whose bytes are at addresses of the form; or the lowest address that is none; or out of memory.
abbrev pub IsFileOr : Form → List Laid → Result (List ℕ) FileFault → Type 0
IsFileOr f image (Ok file) = FitsIn f (byte_at image 0) × IsFile f image file
IsFileOr f image (Err (fault.Outside a)) = IsFirstOutside f (byte_at image 0) a
IsFileOr f image (Err fault.Memory) = ⊤
