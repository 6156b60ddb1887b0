-- The verdict at the end of the input.
use Rattle.std.specs.Prelude.{◌≡◌, ℕ, Result, Ok, Err}
use Rattle.omf_frame.specs.Framer.{Held, stop_of}
use Rattle.omf_frame.specs.declared.fault.FrameFault.{FrameFault}
use Rattle.omf_check.specs.Inner.Passing.{framing_fault}
use Rattle.omf_check.specs.declared.fault.CheckFault.{CheckFault}
use Rattle.omf_check.specs.declared.judged.Judged.{Judged}

-- The verdict of a framer that has taken `size` bytes.
abbrev pub Stops : Held → ℕ → Result Judged CheckFault → Type 0
Stops held size (Ok j) = (stop_of held ≡ Ok tt) × (j.record_count ≡ held.number) × (j.size ≡ size)
Stops held size (Err why) = (fault : FrameFault) × (stop_of held ≡ Err fault) × (why ≡ framing_fault fault)
