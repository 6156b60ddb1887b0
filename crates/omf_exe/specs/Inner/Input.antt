-- What is added of one file to what those before it give (the steps of the code).
use Rattle.std.specs.Prelude.{◌≡◌, List, ℕ, ◌++◌, length}
use Rattle.omf_check.specs.Module.{Module}
use Rattle.omf_library.specs.declared.judged.LibraryMember.{LibraryMember}
use Rattle.omf_exe.specs.Input.{Gives}
use Rattle.omf_exe.specs.Origins.{origins_in}
use Rattle.omf_exe.specs.declared.input.Input.{Input}

-- What a file gives was added.
pub record IsAdded (file : ℕ) (bytes : List ℕ) (old new : Input) : Type 0 where
  pub own : List Module
  pub mine : List LibraryMember
  pub gives : Gives bytes own mine
  pub more : new.given.items ≡ old.given.items ++ own
  pub offered : new.members.items ≡ old.members.items ++ mine
  pub more_from : new.given_from.items ≡ old.given_from.items ++ origins_in file (length own)
  pub offered_from : new.members_from.items ≡ old.members_from.items ++ origins_in file (length mine)
