-- The modules of a program's files (this profile's rule): those of a file of modules all take part, those of a library are offered.
use Rattle.std.specs.Prelude.{◌≡◌, ◌⊎◌, ⊤, ℕ, ◌==◌, Bool, true, false, List, [], ◌∷◌, ◌++◌, map, take, slice_get, Some}
use Rattle.std.specs.Char.{to_ascii_lowercase}
use Rattle.std.specs.List.{AllZip}
use Rattle.omf_check.specs.Module.{Module}
use Rattle.omf_library.specs.Library.{library_header}
use Rattle.omf_library.specs.LibraryMembers.{IsReadingFault, names_kept}
use Rattle.omf_library.specs.declared.judged.LibraryMember.{LibraryMember}
use Rattle.omf_library.specs.declared.judged.LibraryMember.TheVariants as member
use Rattle.omf_library.specs.declared.judged.RefusedMember.{RefusedMember}
use Rattle.omf_linking.specs.File.{InputFile}
use Rattle.omf_exe.specs.Lowered.{IsUntaken}
use Rattle.omf_exe.specs.WithCommunals.{AreGiven, AreGivenMembers}
use Rattle.omf_aliases.specs.Aliases.{any_profile}
use Rattle.omf_exe.specs.Taken.{AreJoined}
use Rattle.omf_linking.specs.Folded.{IsFolded}
use Rattle.omf_exe.specs.declared.input.InputFault.{InputFault}
use Rattle.omf_exe.specs.declared.input.InputFault.TheVariants as fault

-- Bytes are meant as a library: they begin with F0H (TIS OMF 1.1, appendix 2).
abbrev pub is_library : List ℕ → Bool
is_library [] = false
is_library (b ∷ bs) = b == library_header

-- What a file gives: modules that take part, and members. A library gives its members, any other file its modules, each as a program takes it.
abbrev pub Gives : List ℕ → List Module → List LibraryMember → Type 0
Gives bytes given members =
    ((is_library bytes ≡ true) × (given ≡ []) × AreGivenMembers bytes members) ⊎ ((is_library bytes ≡ false) × AreGiven bytes given × (members ≡ []))

-- What files give, in their order.
abbrev pub AllGive : List InputFile → List Module → List LibraryMember → Type 0
AllGive [] given members = (given ≡ []) × (members ≡ [])
AllGive (f ∷ fs) given members =
    (own : List Module) × (mine : List LibraryMember) × (others : List Module) × (theirs : List LibraryMember)
    × Gives f.bytes own mine × AllGive fs others theirs × (given ≡ own ++ others) × (members ≡ mine ++ theirs)

-- A member with the names of its publics, externals and communals in lower case. One that is refused has publics alone.
pub record IsRefusedFolded (r lower : RefusedMember) : Type 0 where
  pub offset : lower.offset ≡ r.offset
  pub reason : lower.reason ≡ r.reason
  pub place : lower.place ≡ r.place
  pub names : names_kept lower.publics.items ≡ map (map to_ascii_lowercase) (names_kept r.publics.items)

abbrev pub IsMemberFolded : LibraryMember → LibraryMember → Type 0
IsMemberFolded (member.Module m) (member.Module n) = IsFolded m n
IsMemberFolded (member.Refused r) (member.Refused s) = IsRefusedFolded r s
IsMemberFolded _ _ = ⊥

-- The modules of a program: those that its files give, and after them the members that these need, of which none is refused.
pub record AreOfFiles (files : List InputFile) (ms : List Module) : Type 0 where
  pub given : List Module
  pub members : List LibraryMember
  pub numbers : List ℕ
  pub hold : AllGive files given members
  pub joined : AreJoined given members ms numbers

-- The same with names compared without case (`--ignore-case`): those that the files give are folded first.
pub record AreOfFolded (files : List InputFile) (ms : List Module) : Type 0 where
  pub given : List Module
  pub members : List LibraryMember
  pub folded_given : List Module
  pub folded_members : List LibraryMember
  pub numbers : List ℕ
  pub hold : AllGive files given members
  pub fold_given : AllZip IsFolded given folded_given
  pub fold_members : AllZip IsMemberFolded members folded_members
  pub joined : AreJoined folded_given folded_members ms numbers

-- A file, by its number, gives nothing: why not. Memory may run out at any time.
abbrev pub IsFileFault : ℕ → List ℕ → InputFault → Type 0
IsFileFault k bytes fault.Memory = ⊤
IsFileFault k bytes (fault.Library j f) = (j ≡ k) × (is_library bytes ≡ true) × IsReadingFault any_profile bytes f
IsFileFault k bytes (fault.Modules j f) = (j ≡ k) × (is_library bytes ≡ false) × IsUntaken bytes f

-- The first file that gives nothing, by its number from 0.
pub record IsInputFault (files : List InputFile) (f : InputFault) : Type 0 where
  pub number : ℕ
  pub file : InputFile
  pub given : List Module
  pub members : List LibraryMember
  pub before : AllGive (take number files) given members
  pub found : slice_get files number ≡ Some file
  pub fails : IsFileFault number file.bytes f
