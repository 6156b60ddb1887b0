-- A fault of a changed module, as one of the input.
use Rattle.std.specs.Prelude.{◌≡◌, ⊤, ℕ, List, Option, Some, Result, Ok}
use Rattle.omf_lowering.specs.declared.fault.LoweringFault.{LoweringFault}
use Rattle.omf_lowering.specs.declared.fault.LoweringFault.TheVariants as lowering
use Rattle.omf_lowered.specs.Places.{IsPlaceOf}

-- The number of the record at fault.
abbrev pub number_of : LoweringFault → ℕ
number_of lowering.Memory = 0
number_of (lowering.Refused why at) = at.number

-- The fault g is the fault f of the changed module at the place in the input, whose record has this number; or memory has run out.
abbrev pub IsMoved : {E : Type 0} → List ℕ → List ℕ → Result (Option ℕ) E → LoweringFault → LoweringFault → Type 0
IsMoved input own origin f lowering.Memory = ⊤
IsMoved input own origin lowering.Memory (lowering.Refused why at) = ⊥
IsMoved input own origin (lowering.Refused why there) (lowering.Refused reason at) = (reason ≡ why) × ((origin ≡ Ok (Some at.number)) × IsPlaceOf input own there at)
