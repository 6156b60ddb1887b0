-- Regions appended one after another.
use Rattle.std.specs.Prelude.{◌≡◌, ℕ, List, [], ◌∷◌, ◌++◌}
use Rattle.omf_library.specs.Account.{Cut, end_of, regions}
use Rattle.omf_library.specs.declared.account.Region.{Region}

-- Where the last of these regions ends.
abbrev pub reached : ℕ → ℕ → List Cut → ℕ
reached n at [] = at
reached n at (c ∷ cs) = reached n (end_of n at c) cs

-- The regions with these cuts were appended, and this is where the last one ends.
pub record Adds (n from : ℕ) (cuts : List Cut) (old new : List Region) (end : ℕ) : Type 0 where
  pub added : new ≡ old ++ regions n from cuts
  pub ends : end ≡ reached n from cuts
