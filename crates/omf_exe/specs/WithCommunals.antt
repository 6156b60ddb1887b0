-- What a program takes of files, with the communals that EXTDEFs define by the TYPDEF of their type index (TIS OMF 1.1, "TYPDEF").
use Rattle.std.specs.Prelude.{◌≡◌, ℕ, List}
use Rattle.std.specs.List.{AllZip}
use Rattle.omf_check.specs.Module.{Module}
use Rattle.omf_communals.specs.Communals.{AreWithCommunals, IsWithCommunals}
use Rattle.omf_library.specs.declared.judged.LibraryMember.{LibraryMember}
use Rattle.omf_library.specs.declared.judged.LibraryMember.TheVariants as member
use Rattle.omf_exe.specs.Lowered.{AreTaken, AreTakenMembers}

-- The modules that a file gives: those that a program takes of it, each with its communals.
pub record AreGiven (bytes : List ℕ) (ms : List Module) : Type 0 where
  pub read : List Module
  pub taken : AreTaken bytes read
  pub communals : AreWithCommunals read ms

-- A member with its communals. One that is refused stays as it is.
abbrev pub IsMemberWithCommunals : LibraryMember → LibraryMember → Type 0
IsMemberWithCommunals (member.Module m) (member.Module n) = IsWithCommunals m n
IsMemberWithCommunals (member.Refused r) (member.Refused s) = s ≡ r
IsMemberWithCommunals _ _ = ⊥

-- The members that a library gives, likewise.
pub record AreGivenMembers (bytes : List ℕ) (members : List LibraryMember) : Type 0 where
  pub read : List LibraryMember
  pub taken : AreTakenMembers bytes read
  pub communals : AllZip IsMemberWithCommunals read members
