-- The walk over values for those at numbers that rise.
use Rattle.std.specs.Prelude.{◌≡◌, ⊤, ℕ, ◌+◌, ◌==◌, List, [], ◌∷◌, ◌++◌, Bool, false, drop, slice_get, take, Some, if◌then◌else◌}
use Rattle.omf_check.specs.Module.{Module}
use Rattle.omf_library.specs.declared.judged.LibraryMember.{LibraryMember}
use Rattle.omf_library.specs.declared.judged.LibraryMember.TheVariants as member
use Rattle.omf_library.specs.declared.judged.RefusedMember.{RefusedMember}
use Rattle.omf_exe.specs.Taken.{all_modules}
use Rattle.omf_exe.specs.declared.joining.JoiningFault.{JoiningFault}
use Rattle.omf_exe.specs.declared.joining.JoiningFault.TheVariants as fault

-- Whether a number is the first of those that are left.
abbrev pub is_first : ℕ → List ℕ → Bool
is_first i [] = false
is_first i (n ∷ ns) = n == i

-- The values that are taken from number i on.
abbrev pub walked : {A : Type 0} → ℕ → List ℕ → List A → List A
walked i ns [] = []
walked i ns (x ∷ xs) = if is_first i ns then x ∷ walked (i + 1) (drop 1 ns) xs else walked (i + 1) ns xs

-- The fault of a member that is refused.
abbrev pub IsRefusedWith : List ℕ → ℕ → RefusedMember → JoiningFault → Type 0
IsRefusedWith numbers at refused fault.Memory = ⊤
IsRefusedWith numbers at refused (fault.Refused number r) = (slice_get numbers at ≡ Some number) × (r ≡ refused)

-- The members are modules, and were moved.
pub record AreMoved (members : List LibraryMember) (old new : List Module) : Type 0 where
  pub own : List Module
  pub modules : members ≡ all_modules own
  pub all : new ≡ old ++ own

-- The first of the members, which have these numbers, that is refused.
abbrev pub IsMovingFault : List ℕ → List LibraryMember → JoiningFault → Type 0
IsMovingFault numbers members fault.Memory = ⊤
IsMovingFault numbers members (fault.Refused number refused) =
    (at : ℕ) × (before : List Module) × (take at members ≡ all_modules before) × (slice_get members at ≡ Some (member.Refused refused)) × (slice_get numbers at ≡ Some number)
