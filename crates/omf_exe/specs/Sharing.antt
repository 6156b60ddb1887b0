-- The module that a linker adds to the modules of a program for their communals (this profile's rule).
use Rattle.std.specs.Prelude.{◌≡◌, ⊤, ℕ, List, [], ◌∷◌, ◌++◌, Option, Some, None, Ok, Err}
use Rattle.omf_check.specs.Checking.{Decides}
use Rattle.omf_check.specs.Module.{Module, typed_modules}
use Rattle.omf_check.specs.declared.fault.CheckFault.TheVariants.{Refused}
use Rattle.omf_records.specs.Values.{Rec}
use Rattle.omf_layout.specs.declared.own.homes.Home.{Home}
use Rattle.omf_layout.specs.Own.Communals.{AreCommunals, IsCommunalsFault}
use Rattle.omf_layout.specs.Own.Homes.{com_home, exe_home}
use Rattle.omf_exe.specs.declared.options.ProgramKind.{ProgramKind}
use Rattle.omf_exe.specs.declared.options.ProgramKind.TheVariants.{Exe, Com}
use Rattle.omf_exe.specs.declared.sharing.SharingFault.{SharingFault}
use Rattle.omf_exe.specs.declared.sharing.SharingFault.TheVariants as sharing
use Rattle.omf_aliases.specs.Aliases.{any_profile}

-- A module is the checked one of these bytes; there is none without bytes.
abbrev pub IsCheckedOf : Option (List ℕ) → Option Module → Type 0
IsCheckedOf None None = ⊤
IsCheckedOf (Some bytes) (Some m) = Decides any_profile bytes (Ok m)
IsCheckedOf None (Some m) = ⊥
IsCheckedOf (Some bytes) None = ⊥

-- Where the near communals of an .EXE and of a .COM program are.
abbrev pub home_of : ProgramKind → List (List Rec) → Home
home_of Exe ms = exe_home ms
home_of Com ms = com_home ms

-- The module of the communals of modules of a program of this kind, if they have any.
pub record IsShared (kind : ProgramKind) (ms : List Module) (added : Option Module) : Type 0 where
  pub bytes : Option (List ℕ)
  pub communals : AreCommunals (home_of kind (typed_modules ms)) (typed_modules ms) bytes
  pub checked : IsCheckedOf bytes added

-- Modules, and after them the module of their communals.
abbrev pub with_added : List Module → Option Module → List Module
with_added ms None = ms
with_added ms (Some m) = ms ++ m ∷ []

pub record AreShared (kind : ProgramKind) (ms all : List Module) : Type 0 where
  pub added : Option Module
  pub shared : IsShared kind ms added
  pub last : all ≡ with_added ms added

-- Why communals are not shared: they have no module; or it is refused.
abbrev pub IsSharingFault : ProgramKind → List Module → SharingFault → Type 0
IsSharingFault kind ms (sharing.Communals f) = IsCommunalsFault (typed_modules ms) f
IsSharingFault kind ms (sharing.Refused why at) = (bytes : List ℕ) × AreCommunals (home_of kind (typed_modules ms)) (typed_modules ms) (Some bytes) × Decides any_profile bytes (Err (Refused why at))
