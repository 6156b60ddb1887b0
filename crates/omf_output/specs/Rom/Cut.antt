-- How a run is cut into records (this profile's rule): at each address that 16 divides.
use Rattle.std.specs.Prelude.{ℕ, zero, suc, ◌+◌, ◌-◌, ◌/◌, ◌%◌, List, [], ◌∷◌, length, take, drop, flat_map}
use Rattle.omf_output.specs.declared.rom.run.Run.{Run}

-- the number of bytes from an address to the next that 16 divides
abbrev pub room : ℕ → ℕ
room address = 16 - address % 16

-- the first n pieces of bytes from an address on, each with its address
abbrev pub first_pieces : ℕ → ℕ → List ℕ → List (ℕ × List ℕ)
first_pieces zero address bytes = []
first_pieces (suc n) address [] = []
first_pieces (suc n) address (b ∷ bytes) =
    (address, take (room address) (b ∷ bytes)) ∷ first_pieces n (address + room address) (drop (room address) (b ∷ bytes))

-- all of them: the count is that of the blocks of 16 addresses that the bytes touch
abbrev pub pieces : ℕ → List ℕ → List (ℕ × List ℕ)
pieces address bytes = first_pieces ((address % 16 + length bytes + 15) / 16) address bytes

-- the pieces of runs
abbrev pub pieces_of : List Run → List (ℕ × List ℕ)
pieces_of runs = flat_map (λ r. pieces r.address r.bytes.now) runs
