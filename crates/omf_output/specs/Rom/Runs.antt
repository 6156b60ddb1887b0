-- Memory as runs of bytes at addresses.
use Rattle.std.specs.Prelude.{ℕ, ◌+◌, ◌<◌, ◌≤◌, List, [], ◌∷◌, length, flat_map, All, slice_index_or}
use Rattle.omf_frame.specs.Bytes.{AreBytes}
use Rattle.omf_output.specs.declared.rom.run.Run.{Run}

-- bytes from an address on, each with its address
abbrev pub placed : ℕ → List ℕ → List (ℕ × ℕ)
placed address [] = []
placed address (b ∷ bytes) = (address, b) ∷ placed (address + 1) bytes

-- each byte of the runs, with its address
abbrev pub memory : List Run → List (ℕ × ℕ)
memory runs = flat_map (λ r. placed r.address r.bytes.now) runs

-- each run ends below an address
abbrev pub AreBelow : ℕ → List Run → Type 0
AreBelow end runs = All (λ r. r.address + length r.bytes.now ≤ end) runs

-- the run of this number does not, and each before it does
pub record IsFirstAbove (end : ℕ) (runs : List Run) (i : ℕ) : Type 0 where
  pub there : i < length runs
  pub above : (d : Run) → end < (slice_index_or runs i d).address + length (slice_index_or runs i d).bytes.now
  pub before : (k : ℕ) (d : Run) → k < i → (slice_index_or runs k d).address + length (slice_index_or runs k d).bytes.now ≤ end

-- each run has bytes, as every run of code does
abbrev pub HaveBytes : List Run → Type 0
HaveBytes runs = All (λ r. AreBytes r.bytes.now) runs
