-- The walk over an input, computed: the records up to the MODEND, or the first fault.
use Rattle.std.specs.Prelude.{ℕ, zero, suc, List, [], ◌∷◌, ◌++◌, Bool, true, false, Option, Some, None}
use Rattle.omf_frame.specs.Fault.{Fault}
use Rattle.omf_frame.specs.Framing.{Raw, after_front, front_record, is_end}
use Rattle.omf_lowering.specs.Lowering.{fault_at}

-- All records, or the records before the fault.
pub data Walked : Type 0 where
  Done : List Raw → Walked
  Stopped : List Raw → Fault → Walked
  Endless : Walked

abbrev pub decided : Option Fault → Bool → List Raw → List Raw → Walked → Walked
decided (Some f) ended before all others = Stopped before f
decided None true before all others = Done all
decided None false before all others = others

abbrev pub walked : ℕ → List Raw → List ℕ → Walked
walked zero before rest = Endless
walked (suc n) before rest =
    decided (fault_at before rest) (is_end (front_record rest).kind) before (before ++ front_record rest ∷ []) (walked n (before ++ front_record rest ∷ []) (after_front rest))
