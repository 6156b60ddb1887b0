-- Laws of the reading of an input, each the contract of a function of the same name.
use Rattle.std.specs.Prelude.{◌≡◌, ℕ, List, Bool, true, false, Result, Err}
use Rattle.omf_frame.specs.Bytes.{AreBytes}
use Rattle.omf_check.specs.Module.{Module}
use Rattle.omf_check.specs.declared.profile.Profile.{Profile}
use Rattle.omf_linking.specs.Reading.{AreModules}
use Rattle.omf_linking.specs.declared.fault.LinkFault.{LinkFault}
use Rattle.omf_linking.specs.declared.fault.LinkFault.TheVariants as fault

-- The result is not `Memory`.
abbrev pub is_settled : Result (List Module × List ℕ) LinkFault → Bool
is_settled (Err fault.Memory) = false
is_settled _ = true

-- An input has at most one result, apart from Memory: its modules and the text after them, or the module that is refused, or the place of what is no text.
abbrev pub InputsAreReadOneWay : Type 0
InputsAreReadOneWay =
    (profile : Profile) (input : List ℕ) (one other : Result (List Module × List ℕ) LinkFault) → is_settled one ≡ true → is_settled other ≡ true → AreModules profile input one → AreModules profile input other → one ≡ other

-- Each input is read as modules, one at least, and the text after them, or one of its modules is refused, or what follows them is no text; by inputs_are_read_one_way in one way only.
abbrev pub InputsAreRead : Type 0
InputsAreRead = (profile : Profile) (input : List ℕ) → AreBytes input → (r : Result (List Module × List ℕ) LinkFault) × (is_settled r ≡ true) × AreModules profile input r
