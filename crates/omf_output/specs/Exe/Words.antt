-- What words that are moved mean, byte for byte.
use Rattle.std.specs.Prelude.{◌≡◌, ◌⊎◌, ℕ, ◌+◌, ◌%◌, ◌≤◌, ◌<◌, List, [], ◌∷◌, length, slice_index, All, ⊤}
use Rattle.omf_output.specs.Exe.Loading.{word}

-- No two words overlap.
abbrev pub AreApart : List ℕ → Type 0
AreApart [] = ⊤
AreApart (w ∷ ws) = All (λ v. (w + 2 ≤ v) ⊎ (v + 2 ≤ w)) ws × AreApart ws

-- Each word is k more, modulo 2^16; each other byte is what it was; and there are as many bytes.
pub record AreMoved (k : ℕ) (words old new : List ℕ) : Type 0 where
  pub each : All (λ at. word new at ≡ (word old at + k) % 65536) words
  pub others : (x : ℕ) → All (λ at. (x < at) ⊎ (at + 2 ≤ x)) words → slice_index new x ≡ slice_index old x
  pub long : length new ≡ length old
