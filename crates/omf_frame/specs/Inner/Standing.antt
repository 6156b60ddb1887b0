-- The invariant of a framer.
use Rattle.std.specs.Prelude.{◌≡◌, ◌≤◌, ◌<◌, ℕ, ◌*◌, true, ◌==◌, is_some, [], length, Some, None}
use Rattle.omf_frame.specs.Framing.{standing_fault, record_len}
use Rattle.omf_frame.specs.declared.fault.FrameFault.TheVariants.{Memory}
use Rattle.omf_frame.specs.Framer.{Held, longest_record}

-- The invariant of a framer whose buffer has a capacity of `room` bytes. The capacity is below the largest record only before the
-- first byte, or if memory for it was refused.
pub record IsState (room : ℕ) (held : Held) : Type 0 where
  pub roomy : room < longest_record → (held.number ≡ 0) × (held.bytes ≡ [])
  pub bounded : held.start ≤ held.number * 65538
  pub short : length held.bytes ≤ record_len held.bytes
  pub small : length held.bytes ≤ 65538
  pub sound : standing_fault (held.number == 0) held.bytes ≡ None
  pub at_end : held.ended ≡ true → (held.bytes ≡ []) × (held.fault ≡ None)
  pub at_fault : is_some held.fault ≡ true → held.bytes ≡ []
  pub at_memory : held.fault ≡ Some Memory → room < longest_record
