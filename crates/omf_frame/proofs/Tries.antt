-- Calls on a device, one after another.
use Rattle.std.proofs.Common.{◌≡◌, inl, inr, ℕ, ◌≤◌, Bool, true, false, ap, ◌∙◌, arith}
use Rattle.omf_frame.specs.Device.{Device, one_more, HasFailed, IsThousandMore, IsLastTry, GivesUp}

-- the last try of a call is why it gives up
pub last_try : (is_interruption : Bool) (old new : Device) → IsLastTry is_interruption old new → GivesUp old new
last_try true old new h = inr h
last_try false old new h = inl h

-- a failure that is counted after other calls
pub failed_later : (old mid new : ℕ) → old ≤ mid → HasFailed mid new → HasFailed old new
failed_later old mid new grows (inl rose) = inl (omega (arith, grows, rose))
failed_later old mid new grows (inr full) = inr full

thousand_later : (old mid new : ℕ) → old ≤ mid → IsThousandMore mid new → IsThousandMore old new
thousand_later old mid new le (inl more) = inl (omega (arith, le, more))
thousand_later old mid new le (inr last) = inr last

-- a call that gives up after calls in which nothing broke
pub gives_up_later : (old mid new : Device) → mid.breaks ≡ old.breaks → old.failures ≤ mid.failures → GivesUp mid new → GivesUp old new
gives_up_later old mid new same le (inl broke) = inl (broke ∙ ap one_more same)
gives_up_later old mid new same le (inr patient) = inr (patient.0 ∙ same, thousand_later old.failures mid.failures new.failures le patient.1)
