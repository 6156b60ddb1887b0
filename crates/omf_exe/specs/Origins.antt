-- Where the modules of a program come from: each of a file has the number of its file and its number there (this profile's rule).
use Rattle.std.specs.Prelude.{◌≡◌, ℕ, zero, suc, ◌+◌, List, [], ◌∷◌, ◌++◌, Bool, true, false, Option, Some, None, length, map}
use Rattle.std.specs.List.{AllZip}
use Rattle.omf_check.specs.Module.{Module}
use Rattle.omf_library.specs.declared.judged.LibraryMember.{LibraryMember}
use Rattle.omf_linking.specs.File.{InputFile}
use Rattle.omf_linking.specs.Folded.{IsFolded}
use Rattle.omf_exe.specs.Adding.{AreAdded, has_order}
use Rattle.omf_exe.specs.Input.{Gives, IsMemberFolded}
use Rattle.omf_exe.specs.Program.{ProgramModules}
use Rattle.omf_exe.specs.Sharing.{with_added}
use Rattle.omf_exe.specs.Taken.{AreJoined, values_at}
use Rattle.omf_exe.specs.declared.input.Origin.{Origin}
use Rattle.omf_exe.specs.declared.options.Order.{Order}
use Rattle.omf_exe.specs.declared.options.ProgramKind.{ProgramKind}

-- The origins of n modules of a file, one after another. Modules of a file count from 1.
abbrev pub origins_from : ℕ → ℕ → ℕ → List Origin
origins_from file number zero = []
origins_from file number (suc n) = record { file = file; number = number } ∷ origins_from file (number + 1) n

abbrev pub origins_in : ℕ → ℕ → List Origin
origins_in file n = origins_from file 1 n

-- What files give, in their order, and the origin of each module and member. The files count from k.
abbrev pub AllFrom : ℕ → List InputFile → List Module → List LibraryMember → List Origin → List Origin → Type 0
AllFrom k [] given members given_from members_from = (given ≡ []) × (members ≡ []) × (given_from ≡ []) × (members_from ≡ [])
AllFrom k (f ∷ fs) given members given_from members_from =
    (own : List Module) × (mine : List LibraryMember) × (others : List Module) × (theirs : List LibraryMember) × (others_from : List Origin) × (theirs_from : List Origin)
    × Gives f.bytes own mine × AllFrom (k + 1) fs others theirs others_from theirs_from × (given ≡ own ++ others) × (members ≡ mine ++ theirs)
    × (given_from ≡ origins_in k (length own) ++ others_from) × (members_from ≡ origins_in k (length mine) ++ theirs_from)

-- The origins of the modules of a program: of those that its files give, and after them of the members that these need.
pub record AreOfFilesFrom (files : List InputFile) (ms : List Module) (from : List (Option Origin)) : Type 0 where
  pub given : List Module
  pub members : List LibraryMember
  pub given_from : List Origin
  pub members_from : List Origin
  pub numbers : List ℕ
  pub hold : AllFrom 0 files given members given_from members_from
  pub joined : AreJoined given members ms numbers
  pub origins : from ≡ map Some (given_from ++ values_at numbers members_from)

-- The same with names compared without case: a module is folded in its place.
pub record AreOfFoldedFrom (files : List InputFile) (ms : List Module) (from : List (Option Origin)) : Type 0 where
  pub given : List Module
  pub members : List LibraryMember
  pub given_from : List Origin
  pub members_from : List Origin
  pub folded_given : List Module
  pub folded_members : List LibraryMember
  pub numbers : List ℕ
  pub hold : AllFrom 0 files given members given_from members_from
  pub fold_given : AllZip IsFolded given folded_given
  pub fold_members : AllZip IsMemberFolded members folded_members
  pub joined : AreJoined folded_given folded_members ms numbers
  pub origins : from ≡ map Some (given_from ++ values_at numbers members_from)

abbrev pub AreFrom : Bool → List InputFile → List Module → List (Option Origin) → Type 0
AreFrom true files ms from = AreOfFoldedFrom files ms from
AreFrom false files ms from = AreOfFilesFrom files ms from

-- The origins of the modules with those that the linker adds, which have none. That of their order is before all; after the others nothing is noted.
abbrev pub origins_with : Bool → List (Option Origin) → List (Option Origin)
origins_with true from = None ∷ from
origins_with false from = from

pub record AreAllWith (kind : ProgramKind) (stack : Option ℕ) (order : Option Order) (ms : List Module) (from : List (Option Origin)) (all : ProgramModules) : Type 0 where
  pub added : AreAdded kind stack order ms all.modules
  pub origins : all.from ≡ origins_with (has_order order (with_added added.shared added.added)) from
