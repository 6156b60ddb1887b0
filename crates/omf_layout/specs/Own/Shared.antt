-- A communal that modules share.
use Rattle.std.specs.Prelude.{ℕ, List, Bool}

-- Its name, whether it is far, and its size in bytes.
pub record Shared : Type 0 where
  pub name : List ℕ
  pub far : Bool
  pub size : ℕ
