-- The records that were taken from a reader.
use Rattle.std.specs.Prelude.{◌≡◌, ℕ, List, length, Option}
use Rattle.std.specs.Io.KnownBytes.{Consumes, Appends}
use Rattle.omf_frame.specs.Framer.{Held}
use Rattle.omf_check.specs.Inner.Kept.{Kept}
use Rattle.omf_check.specs.Inner.Passing.{IsPassing}
use Rattle.omf_check.specs.declared.profile.Profile.{Profile}

-- The bytes taken from the reader, `size` of them, were judged and kept: the framer and the tables are those after these bytes.
pub record HasTaken (profile : Profile) (old new had has : Option (List ℕ)) (held : Held) (kept : Kept) (size : ℕ) : Type 0 where
  pub taken : List ℕ
  pub passing : IsPassing profile held taken kept
  pub counted : size ≡ length taken
  pub consumed : Consumes old new taken
  pub grown : Appends had has taken
