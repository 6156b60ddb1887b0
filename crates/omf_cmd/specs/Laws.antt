-- Laws over the definitions, each the contract of a function of its name.
use Rattle.std.specs.Prelude.{◌≡◌, ℕ, List, Bool, true, false, Result, Err}
use Rattle.omf_frame.specs.Bytes.{AreBytes}
use Rattle.omf_check.specs.declared.profile.Profile.{Profile}
use Rattle.omf_cmd.specs.Relocating.{Answers}
use Rattle.omf_cmd.specs.declared.fault.RunFault.{RunFault}
use Rattle.omf_cmd.specs.declared.fault.RunFault.TheVariants as fault

-- neither memory nor the reader failed
abbrev pub is_settled : Result (List ℕ) RunFault → Bool
is_settled (Err fault.Memory) = false
is_settled (Err fault.Read) = false
is_settled _ = true

-- The only answer to an input, unless memory or the reader fails.
pub record IsTheAnswer (profile : Profile) (input : List ℕ) (answer : Result (List ℕ) RunFault) : Type 0 where
  pub settled : is_settled answer ≡ true
  pub answers : Answers profile input answer
  pub only : (other : Result (List ℕ) RunFault) → is_settled other ≡ true → Answers profile input other → other ≡ answer

-- Each input has one such answer.
abbrev pub InputsHaveOneAnswer : Type 0
InputsHaveOneAnswer = (profile : Profile) (input : List ℕ) → AreBytes input → (answer : Result (List ℕ) RunFault) × IsTheAnswer profile input answer
