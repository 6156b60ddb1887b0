-- A row read by its characters.
use Rattle.std.proofs.Common.{◌≡◌, ℕ, ◌+◌, ◌≤◌, ◌==◌, false, List, [], ◌∷◌, ◌++◌, drop, length, Result, Ok, Err, refl, ◌∙◌, rules, arith}
use Rattle.omf_samples.specs.Hex.{digit, pair, and_then, row_after}
use Rattle.omf_samples.specs.declared.hex.BadHex.{BadHex}
use Rattle.omf_samples.specs.declared.hex.BadHex.TheVariants.{Half}

-- a space is passed over
pub past_space : (bytes : List ℕ) (at c : ℕ) (left cs : List ℕ) → left ≡ c ∷ cs → c ≡ 32 → row_after bytes (at + 1) cs ≡ row_after bytes at left
past_space bytes at c left [] e h = rw (e, h) refl
past_space bytes at c left (d ∷ cs) e h = rw (e, h) refl

-- two digits add their byte
pub two_digits : (bytes : List ℕ) (at c b : ℕ) (left cs : List ℕ) → left ≡ c ∷ cs → (c == 32) ≡ false → pair at c cs ≡ Ok b → row_after (bytes ++ b ∷ []) (at + 2) (drop 1 cs) ≡ row_after bytes at left
two_digits bytes at c b left [] e n h = rw (e, n, h) refl
two_digits bytes at c b left (d ∷ cs) e n h = rw (e, n, h) refl

-- the same as a loop has it
pub next_byte : (bytes items : List ℕ) (at c b : ℕ) (left cs next : List ℕ) (total : Result (List ℕ) BadHex) → left ≡ c ∷ cs → (c == 32) ≡ false → pair at c cs ≡ Ok b → items ≡ bytes ++ b ∷ [] → next ≡ drop 1 cs → row_after bytes at left ≡ total → row_after items (at + 2) next ≡ total
next_byte bytes items at c b left cs next total e n h i d t = rw (i, d) (two_digits bytes at c b left cs e n h ∙ t)

never : (b : ℕ) (error : BadHex) (r : Result ℕ BadHex) → and_then r (λ _. Err error) ≡ Ok b → 1 ≤ 0
never b error (Ok n) h = search rules
never b error (Err e) h = search rules

-- a byte has a second digit
pub has_second : (at c b : ℕ) (cs : List ℕ) → pair at c cs ≡ Ok b → 1 ≤ length cs
has_second at c b [] h = never b (Half at) (digit at c) h
has_second at c b (d ∷ cs) h = omega arith
