-- The records that are judged where a reader shows them.
use Rattle.std.specs.Prelude.{◌≡◌, ◌≤◌, ℕ, false, List, ◌++◌, length, take, Option}
use Rattle.std.specs.Io.KnownBytes.{Consumes, Appends}
use Rattle.omf_frame.specs.Device.{Shows}
use Rattle.omf_frame.specs.Framer.{Held}
use Rattle.omf_frame.specs.Framing.{record_len}
use Rattle.omf_check.specs.Inner.Kept.{Kept}
use Rattle.omf_check.specs.Inner.Passing.{IsPassing, Fails, here}
use Rattle.omf_check.specs.Session.{want_with}
use Rattle.omf_check.specs.declared.fault.CheckFault.{CheckFault}
use Rattle.omf_check.specs.declared.profile.Profile.{Profile}

-- Records of `size` bytes were accepted, taken from the reader, and kept.
pub record PassesAhead (profile : Profile) (taken : List ℕ) (size : ℕ) (old new had has : Option (List ℕ)) (held : Held) (kept : Kept) : Type 0 where
  pub passed : List ℕ
  pub passing : IsPassing profile held (taken ++ passed) kept
  pub counted : size ≡ length passed
  pub consumed : Consumes old new passed
  pub grown : Appends had has passed

-- The record that `ahead` begins with was refused or not kept, and taken from the reader; no more bytes than are wanted.
pub record StopsAhead (profile : Profile) (held : Held) (taken ahead : List ℕ) (old new : Option (List ℕ)) (fault : CheckFault) : Type 0 where
  pub shows : Shows old ahead
  pub running : held.ended ≡ false
  pub low : length (take (record_len ahead) ahead) ≤ want_with (here profile held taken) ahead
  pub consumed : Consumes old new (take (record_len ahead) ahead)
  pub fails : Fails profile held taken (take (record_len ahead) ahead) fault

-- Some records were accepted, possibly none, and the next was refused.
pub record FailsAhead (profile : Profile) (taken : List ℕ) (old new : Option (List ℕ)) (fault : CheckFault) : Type 0 where
  pub passed : List ℕ
  pub held : Held
  pub kept : Kept
  pub between : Option (List ℕ)
  pub ahead : List ℕ
  pub passing : IsPassing profile held (taken ++ passed) kept
  pub consumed : Consumes old between passed
  pub stops : StopsAhead profile held (taken ++ passed) ahead between new fault
