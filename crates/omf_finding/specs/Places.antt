-- Where a pattern is in a program. An open byte of a pattern is None.
use Rattle.std.specs.Prelude.{ℕ, ◌+◌, List, drop, length, filter, Bool, true, ◌==◌, ◌&&◌, nat_le, Option, Some, None}
use Rattle.std.specs.List.{range_with_len, list_all, zip}

-- An open byte agrees with any byte.
abbrev pub agrees : Option ℕ → ℕ → Bool
agrees None byte = true
agrees (Some own) byte = own == byte

-- It is whole inside the program from this offset on, and each closed byte agrees.
abbrev pub lies_at : List (Option ℕ) → List ℕ → ℕ → Bool
lies_at pattern program at = nat_le (at + length pattern) (length program) && list_all (λ p. agrees p.0 p.1) (zip pattern (drop at program))

-- All such offsets, in ascending order.
abbrev pub places : List (Option ℕ) → List ℕ → List ℕ
places pattern program = filter (lies_at pattern program) (range_with_len 0 (length program + 1))
