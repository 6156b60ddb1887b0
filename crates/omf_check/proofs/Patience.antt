-- A check retries only interruptions of its reader.
use Rattle.std.proofs.Common.{◌≡◌, ◌⊎◌, ℕ, List, inl, inr}
use Rattle.std.specs.Prelude.{Some, None, Err}
use Rattle.omf_frame.specs.Device.{Device}
use Rattle.omf_check.specs.declared.fault.CheckFault.{CheckFault}
use Rattle.omf_check.specs.declared.fault.CheckFault.TheVariants as check
use Rattle.omf_check.specs.Checking.{IsReadPatiently}
use Rattle.omf_check.specs.Module.{Module}
use Rattle.omf_check.specs.Session.{Seen, FailsAs, IsCause}

no_fault_kept : (s : Seen) (why : CheckFault) → s.fault ≡ None → s.fault ≡ Some why → ⊥
no_fault_kept s why e h = cc

module _ (s : Seen) (fault : s.fault ≡ None) (old new : Device) (same : new.breaks ≡ old.breaks) where
  in_midst : (piece : List ℕ) (why : CheckFault) → IsCause s piece why → IsReadPatiently {A = Module} old new (Err why)
  in_midst piece check.Memory f = same
  in_midst piece check.Read f = absurd f
  in_midst piece (check.Refused why at) f = same

  -- a fault of a feed is no failure of the reader
  pub feed_patient : (piece : List ℕ) (why : CheckFault) (next : Seen) → FailsAs s piece why next → IsReadPatiently {A = Module} old new (Err why)
  feed_patient piece why next f = by f.cause
    where
      by : (s.fault ≡ Some why) ⊎ ((s.fault ≡ None) × IsCause s piece why) → IsReadPatiently {A = Module} old new (Err why)
      by (inl h) = absurd (no_fault_kept s why fault h)
      by (inr h) = in_midst piece why h.1
