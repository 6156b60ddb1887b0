-- A raw binary: the bytes of a range of addresses, those that no run has filled with one value (this profile's rule).
use Rattle.std.specs.Prelude.{ℕ, ◌≡◌, ◌+◌, ◌-◌, ◌<◌, ◌≤◌, ◌&&◌, List, [], ◌∷◌, ◌++◌, length, replicate, nat_le, nat_lt, slice_index, if◌then◌else◌}
use Rattle.omf_output.specs.declared.rom.run.Run.{Run}

-- the runs ascend, from one address to another, and do not overlap
abbrev pub Ascend : ℕ → ℕ → List Run → Type 0
Ascend from end [] = from ≤ end
Ascend from end (r ∷ runs) = (from ≤ r.address) × Ascend (r.address + length r.bytes.now) end runs

-- the bytes from one address to another
abbrev pub binary : ℕ → ℕ → ℕ → List Run → List ℕ
binary from end fill [] = replicate (end - from) fill
binary from end fill (r ∷ runs) = replicate (r.address - from) fill ++ r.bytes.now ++ binary (r.address + length r.bytes.now) end fill runs

-- the byte that a run has at an address, or the fill
abbrev pub byte_at : ℕ → List Run → ℕ → ℕ
byte_at fill [] address = fill
byte_at fill (r ∷ runs) address =
    if nat_le r.address address && nat_lt address (r.address + length r.bytes.now) then slice_index r.bytes.now (address - r.address) else byte_at fill runs address

-- the bytes are those of the addresses from one to another
pub record AreBytesFrom (from end fill : ℕ) (runs : List Run) (bytes : List ℕ) : Type 0 where
  pub size : length bytes ≡ end - from
  pub each : (i : ℕ) → from + i < end → slice_index bytes i ≡ byte_at fill runs (from + i)
