use Rattle.std.proofs.Common.{◌≡◌, ℕ, ◌<◌}
use Rattle.std.specs.Prelude.{Some, slice_get}
use Rattle.omf_making.specs.Made.{IsWhole}
use Rattle.omf_making.specs.declared.making.Part.{Part}
use Rattle.omf_making.proofs.making.fault_of_parts.Given as goal

-- the parts so far are whole
abbrev pub invariant-loop-number : goal.invariant-loop-number
invariant-loop-number l = (i : ℕ) → i < l.number → (part : Part) → slice_get l.parts i ≡ Some part → IsWhole l.profile part
