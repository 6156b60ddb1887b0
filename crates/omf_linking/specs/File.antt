-- A file of an input.
use Rattle.std.specs.Prelude.{ℕ, List}

-- Its name and its bytes.
pub record InputFile : Type 0 where
  pub name : List ℕ
  pub bytes : List ℕ
