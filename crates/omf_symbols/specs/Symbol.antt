-- A name at an address of a program, in code or in data.
use Rattle.std.specs.Prelude.{ℕ, List, Bool}

pub record Symbol : Type 0 where
  pub is_code : Bool
  pub address : ℕ
  pub name : List ℕ
