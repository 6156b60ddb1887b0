-- A name with an address: the number of its module, and of the segment of a public (0 of a name that is asked for).
use Rattle.std.specs.Prelude.{ℕ, List}

pub record NameRow : Type 0 where
  pub address : ℕ
  pub «module» : ℕ
  pub segment : ℕ
  pub name : List ℕ
