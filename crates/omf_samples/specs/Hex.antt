-- What a row of hexadecimal text spells.
use Rattle.std.specs.Prelude.{ℕ, ◌+◌, ◌*◌, ◌==◌, if◌then◌else◌, List, [], ◌∷◌, ◌++◌, Result, Ok, Err}
use Rattle.std.specs.Char.{digit_value, is_digit}
use Rattle.omf_samples.specs.declared.hex.BadHex.{BadHex}
use Rattle.omf_samples.specs.declared.hex.BadHex.TheVariants.{Digit, Half}

-- the value of the digit c at offset `at`, in either case
abbrev pub digit : ℕ → ℕ → Result ℕ BadHex
digit at c = if is_digit c 16 then Ok (digit_value c) else Err (Digit at)

-- the second step on the value of the first, if it has one
abbrev pub and_then : {A B : Type 0} → Result A BadHex → (A → Result B BadHex) → Result B BadHex
and_then (Err e) next = Err e
and_then (Ok a) next = next a

-- the value of the second digit, at offset `at` if the row has it
abbrev pub second_digit : ℕ → List ℕ → Result ℕ BadHex
second_digit at [] = Err (Half at)
second_digit at (d ∷ cs) = digit (at + 1) d

-- the byte whose first digit is c, at offset `at`; the second digit follows at once
abbrev pub pair : ℕ → ℕ → List ℕ → Result ℕ BadHex
pair at c cs = and_then (digit at c) (λ high. and_then (second_digit at cs) (λ low. Ok (high * 16 + low)))

-- `bytes`, and then the bytes that a row spells from offset `at` on: two digits for each byte, spaces (20H) between bytes
abbrev pub row_after : List ℕ → ℕ → List ℕ → Result (List ℕ) BadHex
row_after bytes at [] = Ok bytes
row_after bytes at (c ∷ []) = if c == 32 then Ok bytes else and_then (pair at c []) (λ b. Ok (bytes ++ b ∷ []))
row_after bytes at (c ∷ d ∷ cs) = if c == 32 then row_after bytes (at + 1) (d ∷ cs) else and_then (pair at c (d ∷ cs)) (λ b. row_after (bytes ++ b ∷ []) (at + 2) cs)

-- `bytes`, and then the bytes of some rows
abbrev pub rows_after : List ℕ → List (List ℕ) → Result (List ℕ) BadHex
rows_after bytes [] = Ok bytes
rows_after bytes (row ∷ rows) = and_then (row_after bytes 0 row) (λ b. rows_after b rows)
