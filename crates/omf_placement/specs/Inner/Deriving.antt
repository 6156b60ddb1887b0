-- The results of the steps of a derivation.
use Rattle.std.specs.Prelude.{◌≡◌, ◌⊎◌, ℕ, ◌+◌, List, ◌∷◌, ◌++◌, map, drop, Option, Some, None, Result, Ok, Err, IsOk}
use Rattle.omf_placement.specs.declared.several.fault.DeriveFault.{DeriveFault}
use Rattle.omf_placement.specs.declared.several.fault.DeriveFault.TheVariants as fault
use Rattle.omf_placement.specs.declared.frame.Placed.{Placed}
use Rattle.omf_placement.specs.Placement.{Places}
use Rattle.omf_placement.specs.Derive.{PlacedModule}

-- The first fault of a list.
pub record IsFirstErr (rs : List (Result Placed DeriveFault)) (f : DeriveFault) : Type 0 where
  pub before : List Placed
  pub after : List (Result Placed DeriveFault)
  pub all : rs ≡ map (λ p. Ok p) before ++ Err f ∷ after

-- All places of a list, or its first fault; or Memory.
abbrev pub IsFound : List (Result Placed DeriveFault) → Result (List Placed) DeriveFault → Type 0
IsFound rs (Ok ps) = rs ≡ map (λ p. Ok p) ps
IsFound rs (Err f) = (f ≡ fault.Memory) ⊎ IsFirstErr rs f

-- The module with a number, from 0.
abbrev pub IsNext : List PlacedModule → ℕ → PlacedModule → Type 0
IsNext ms j m = drop j ms ≡ m ∷ drop (j + 1) ms

-- The first fault of a list; None if each has its place.
abbrev pub IsFaultOf : List (Result Placed DeriveFault) → Option DeriveFault → Type 0
IsFaultOf rs None = (ps : List Placed) × (rs ≡ map (λ p. Ok p) ps)
IsFaultOf rs (Some f) = IsFirstErr rs f

-- The fault of a derivation; None if it has none.
abbrev pub IsFaultIn : Result (List Places) DeriveFault → Option DeriveFault → Type 0
IsFaultIn r None = IsOk r
IsFaultIn r (Some f) = r ≡ Err f

-- The places of the externals, or the first fault; or Memory, whatever the fault.
abbrev pub IsTried : Result (List (List Placed)) DeriveFault → Result (List (List Placed)) DeriveFault → Type 0
IsTried r (Ok ess) = r ≡ Ok ess
IsTried r (Err f) = (f ≡ fault.Memory) ⊎ (r ≡ Err f)

-- A placement with other externals.
abbrev pub with_own : Places × List Placed → Places
with_own x = record x.0 { externals = x.1 }
