-- The modules of a library's members, one after another (the steps of the code).
use Rattle.std.specs.Prelude.{ℕ, List, Result, Ok, Err}
use Rattle.std.specs.List.{AllZip}
use Rattle.omf_check.specs.Module.{Module}
use Rattle.omf_check.specs.declared.profile.Profile.{Profile}
use Rattle.omf_library.specs.Library.{AreMembers, HasHeader, IsLibrary, IsLibraryFault, IsModuleOf, page_size}
use Rattle.omf_library.specs.declared.fault.LibraryFault.{LibraryFault}
use Rattle.omf_library.specs.declared.member.Member.{Member}
use Rattle.omf_library.specs.declared.members.Found.{Found}

-- The modules of the first members of a library, after which the next page is at the offset `at`.
pub record AreFirst (profile : Profile) (bytes : List ℕ) (ms : List Module) (at : ℕ) : Type 0 where
  pub header : HasHeader bytes
  pub members : List Member
  pub members_are : AreMembers profile bytes (page_size bytes) (page_size bytes) members at
  pub modules : AllZip (IsModuleOf profile bytes) members ms

-- The members of a library and the offset of its F1H, or why the bytes are none.
abbrev pub AreFoundIn : Profile → List ℕ → Result Found LibraryFault → Type 0
AreFoundIn profile bytes (Ok f) = IsLibrary profile bytes f.members.items f.end
AreFoundIn profile bytes (Err f) = IsLibraryFault profile bytes f
