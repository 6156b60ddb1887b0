-- Definitions for the worked examples.
use Rattle.std.specs.Prelude.{ℕ, List, Option}
use Rattle.omf_image.specs.Inner.Joined.{runs_of}
use Rattle.omf_image.specs.Overlay.{Laid, byte_at}
use Rattle.omf_linker.specs.Link.MemoryText.{image_text, memory_text}

-- bytes at an address
abbrev pub bytes_at : ℕ → List ℕ → Laid
bytes_at a bs = record { segment = 0; offset = a; bytes = bs }

-- the text of the memory that holds these pieces
abbrev pub text_of : List Laid → List ℕ
text_of laid = memory_text (byte_at laid 0) (runs_of laid 0)

-- the same, with a start address
abbrev pub started_text : List Laid → Option (ℕ × ℕ) → List ℕ
started_text laid start = image_text (byte_at laid 0) (runs_of laid 0) start
