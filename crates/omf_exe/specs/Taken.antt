-- The members of libraries that a program takes, of all members (this profile's rule).
use Rattle.std.specs.Prelude.{◌≡◌, ⊤, ℕ, ◌==◌, ◌||◌, List, [], ◌∷◌, ◌++◌, Bool, false, filter, map, slice_get, take, Some}
use Rattle.std.specs.List.{enumerate_from}
use Rattle.omf_check.specs.Module.{Module}
use Rattle.omf_library.specs.Needed.{AreNeeded, offer}
use Rattle.omf_library.specs.declared.judged.LibraryMember.{LibraryMember}
use Rattle.omf_library.specs.declared.judged.LibraryMember.TheVariants as member
use Rattle.omf_library.specs.declared.judged.RefusedMember.{RefusedMember}
use Rattle.omf_exe.specs.declared.joining.JoiningFault.{JoiningFault}
use Rattle.omf_exe.specs.declared.joining.JoiningFault.TheVariants as fault

-- A number is in a list.
abbrev pub has_number : List ℕ → ℕ → Bool
has_number [] i = false
has_number (n ∷ ns) i = n == i || has_number ns i

-- Of values that are numbered from i on, those whose number is in a list.
abbrev pub numbered_in : {A : Type 0} → ℕ → List ℕ → List A → List A
numbered_in i ns xs = map (λ p. p.1) (filter (λ p. has_number ns p.0) (enumerate_from i xs))

-- The values at these numbers, from 0.
abbrev pub values_at : {A : Type 0} → List ℕ → List A → List A
values_at ns xs = numbered_in 0 ns xs

-- Members that are all modules, in order.
abbrev pub all_modules : List Module → List LibraryMember
all_modules ms = map member.Module ms

-- The given modules, and after them the members that they need, which have these numbers, and of which none is refused.
pub record AreJoined (given : List Module) (members : List LibraryMember) (joined : List Module) (numbers : List ℕ) : Type 0 where
  pub needed : AreNeeded (offer given members) numbers
  pub own : List Module
  pub modules : values_at numbers members ≡ all_modules own
  pub all : joined ≡ given ++ own

-- The first needed member that is refused, after these modules.
pub record IsFirstRefused (given : List Module) (members : List LibraryMember) (number : ℕ) (refused : RefusedMember) : Type 0 where
  pub numbers : List ℕ
  pub needed : AreNeeded (offer given members) numbers
  pub at : ℕ
  pub before : List Module
  pub modules : take at (values_at numbers members) ≡ all_modules before
  pub found : slice_get (values_at numbers members) at ≡ Some (member.Refused refused)
  pub numbered : slice_get numbers at ≡ Some number

-- Why modules are not joined. Memory may run out at any time.
abbrev pub IsJoiningFault : List Module → List LibraryMember → JoiningFault → Type 0
IsJoiningFault given members fault.Memory = ⊤
IsJoiningFault given members (fault.Refused number refused) = IsFirstRefused given members number refused
