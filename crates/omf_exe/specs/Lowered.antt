-- Modules with records outside this profile: a program takes them as they are lowered (this profile's rule).
use Rattle.std.specs.Prelude.{◌≡◌, ◌⊎◌, ⊤, ℕ, List, Bool, true, false, drop, Some, None, Ok, Err, if◌then◌else◌}
use Rattle.std.specs.List.{AllZip}
use Rattle.omf_check.specs.Checking.{Decides}
use Rattle.omf_check.specs.Module.{Module}
use Rattle.omf_frame.specs.declared.fault.Place.{Place}
use Rattle.omf_frame.specs.declared.fault.Reason.{Reason}
use Rattle.omf_library.specs.LibraryMembers.{IsLibraryOf}
use Rattle.omf_library.specs.declared.judged.LibraryMember.{LibraryMember}
use Rattle.omf_library.specs.declared.judged.LibraryMember.TheVariants as member
use Rattle.omf_library.specs.declared.judged.RefusedMember.{RefusedMember}
use Rattle.omf_linking.specs.Files.{IsFile}
use Rattle.omf_linking.specs.declared.fault.LinkFault.{LinkFault}
use Rattle.omf_linking.specs.declared.fault.LinkFault.TheVariants as link
use Rattle.omf_lowered.specs.Checked.{IsRefusedAsWritten, IsUnlowered as IsModuleUnlowered}
use Rattle.omf_lowered.specs.Files.{IsFileFault, IsLoweredFile, IsPlaceInFile}
use Rattle.omf_lowered.specs.Mended.{is_mendable, shown}
use Rattle.omf_lowered.specs.Modules.{IsLoweredModule as IsModuleLowered}
use Rattle.omf_lowered.specs.declared.fault.FileFault.{FileFault}
use Rattle.omf_lowered.specs.declared.fault.FileFault.TheVariants as lowering
use Rattle.omf_aliases.specs.Aliases.{any_profile}
use Rattle.omf_exe.specs.declared.lowered.Unlowered.{Unlowered}
use Rattle.omf_exe.specs.declared.lowered.Unlowered.TheVariants as unlowered

-- A fault is that memory ran out.
abbrev pub is_link_memory : LinkFault → Bool
is_link_memory link.Memory = true
is_link_memory _ = false

-- ---- files

-- The modules of a file's lowering.
pub record AreOfLowered (bytes : List ℕ) (ms : List Module) : Type 0 where
  pub lowered : List ℕ
  pub lowering : IsLoweredFile bytes lowered
  pub modules : IsFile any_profile lowered (Ok ms)

-- The check refuses a module of a file's lowering. The record at fault is at this place in the file's module.
pub record IsRefusedAt (bytes : List ℕ) (number : ℕ) (why : Reason) (at : Place) : Type 0 where
  pub lowered : List ℕ
  pub there : Place
  pub lowering : IsLoweredFile bytes lowered
  pub refused : IsFile any_profile lowered (Err (link.Refused number why there))
  pub place : IsPlaceInFile bytes number there (Some at)

abbrev pub IsCheckFault : List ℕ → FileFault → Type 0
IsCheckFault bytes (lowering.Refused number why at) = IsRefusedAt bytes number why at
IsCheckFault bytes _ = ⊥

-- A fault of a file's lowering that is at no record of the file: the lowering wrote the record.
abbrev pub IsAtNone : List ℕ → LinkFault → Type 0
IsAtNone bytes (link.Refused number why there) = IsPlaceInFile bytes number there None
IsAtNone bytes _ = ⊤

-- A file's lowering is refused, at no record of the file.
pub record IsLoweredRefused (bytes : List ℕ) : Type 0 where
  pub lowered : List ℕ
  pub lowering : IsLoweredFile bytes lowered
  pub fault : LinkFault
  pub known : is_link_memory fault ≡ false
  pub refused : IsFile any_profile lowered (Err fault)
  pub written : IsAtNone bytes fault

-- Why a file's lowering gives no modules: there is none, with this fault; or it is refused, with this fault at the file's record, or at none. Memory may run out at any time.
abbrev pub IsUnlowered : List ℕ → Unlowered → Type 0
IsUnlowered bytes unlowered.Memory = ⊤
IsUnlowered bytes (unlowered.Fault f) = IsFileFault bytes f ⊎ IsCheckFault bytes f
IsUnlowered bytes unlowered.Refused = IsLoweredRefused bytes

-- The modules that a program takes of a file: those of the file, or, if it is refused, those of its lowering.
abbrev pub IsFileRefused : List ℕ → LinkFault → Type 0
IsFileRefused bytes f = (is_link_memory f ≡ false) × IsFile any_profile bytes (Err f)

abbrev pub AreTaken : List ℕ → List Module → Type 0
AreTaken bytes ms = IsFile any_profile bytes (Ok ms) ⊎ ((f : LinkFault) × IsFileRefused bytes f × AreOfLowered bytes ms)

-- The fault that is shown of a file that is refused, and of which the lowering gives no modules: its own. But if that is one which a lowering mends, it is the fault that is left:
-- the one of the lowering, or of its check if that is at a record of the file.
abbrev pub shown_fault : LinkFault → LinkFault → LinkFault
shown_fault (link.Refused k why at) lowering = shown why (link.Refused k why at) lowering
shown_fault own lowering = own

abbrev pub with_lowering : LinkFault → FileFault → LinkFault
with_lowering own lowering.Memory = link.Memory
with_lowering own (lowering.Refused k why at) = shown_fault own (link.Refused k why at)
with_lowering own (lowering.NoModule at) = shown_fault own (link.NoText at)

abbrev pub shown_of_file : LinkFault → Unlowered → LinkFault
shown_of_file own unlowered.Memory = link.Memory
shown_of_file own (unlowered.Fault f) = with_lowering own f
shown_of_file own unlowered.Refused = own

-- A program takes no modules of a file, and this fault is shown. Memory may run out at any time.
abbrev pub IsUntaken : List ℕ → LinkFault → Type 0
IsUntaken bytes f = is_link_memory f ≡ false → (own : LinkFault) × (why : Unlowered) × IsFileRefused bytes own × IsUnlowered bytes why × (f ≡ shown_of_file own why)

-- ---- members of libraries

-- The lowering of the module that bytes begin with is this module.
pub record IsLoweredModule (bytes : List ℕ) (m : Module) : Type 0 where
  pub lowered : List ℕ
  pub rest : List ℕ
  pub lowering : IsModuleLowered bytes lowered rest
  pub accepted : Decides any_profile lowered (Ok m)

-- A refused member with the fault of its lowering or of that one's check, if its own is one that a lowering mends.
abbrev pub with_fault : RefusedMember → Reason → Place → RefusedMember
with_fault r why at = if is_mendable r.reason then record { offset = r.offset; reason = why; place = at; publics = r.publics } else r

-- A member that stays refused: its lowering is refused too, at a record that it wrote; or the fault shown is as for a file.
abbrev pub IsStillRefused : List ℕ → RefusedMember → RefusedMember → Type 0
IsStillRefused bytes r s =
    (IsRefusedAsWritten any_profile bytes × (s ≡ r)) ⊎ ((why : Reason) × (at : Place) × IsModuleUnlowered any_profile bytes why at × (s ≡ with_fault r why at))

-- What a program takes of a member of a library: the member, or, if it is refused, its lowering, if it has one that is not.
abbrev pub IsTakenOf : List ℕ → LibraryMember → LibraryMember → Type 0
IsTakenOf bytes (member.Module m) (member.Module n) = n ≡ m
IsTakenOf bytes (member.Refused r) (member.Module m) = IsLoweredModule (drop r.offset bytes) m
IsTakenOf bytes (member.Refused r) (member.Refused s) = IsStillRefused (drop r.offset bytes) r s
IsTakenOf bytes (member.Module m) (member.Refused s) = ⊥

-- The members that a program takes of a library.
pub record AreTakenMembers (bytes : List ℕ) (members : List LibraryMember) : Type 0 where
  pub read : List LibraryMember
  pub library : IsLibraryOf any_profile bytes read
  pub taken : AllZip (IsTakenOf bytes) read members
