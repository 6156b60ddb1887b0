-- A text that is written in two parts.
use Rattle.std.proofs.Common.{◌≡◌, ℕ, ◌≤◌, List, ◌++◌, ap, ◌∙◌, sym, append_assoc, arith, inl, inr}
use Rattle.std.proofs.KnownBytes.{Appends-trans}
use Rattle.std.specs.Io.KnownBytes.{Appends}
use Rattle.omf_frame.specs.Device.{Device, GivesUp, IsThousandMore, one_more}
use Rattle.omf_host.specs.declared.ending.Status.{Status}
use Rattle.omf_host.specs.declared.ending.Status.TheVariants as status
use Rattle.omf_host.specs.Ending.{IsPut}

-- the writer failed in the first part
pub in_first : (old new : Device) (a b : List ℕ) → GivesUp old new → (front : List ℕ) × (back : List ℕ) × (a ≡ front ++ back) × Appends old.bytes new.bytes front → IsPut old new (a ++ b) status.Failed
in_first old new a b failed k = (failed, k.0, k.1 ++ b, ap (λ (t : List ℕ). t ++ b) k.2 ∙ append_assoc k.0 k.1 b, k.3)

module _ (old mid new : Device) (grows : old.failures ≤ mid.failures) (same : mid.breaks ≡ old.breaks) where
  thousand_later : IsThousandMore mid.failures new.failures → IsThousandMore old.failures new.failures
  thousand_later (inl h) = inl (omega arith)
  thousand_later (inr h) = inr h

  gives_up_later : GivesUp mid new → GivesUp old new
  gives_up_later (inl h) = inl (h ∙ ap one_more same)
  gives_up_later (inr h) = inr (h.0 ∙ same, thousand_later h.1)

  -- after the first part, the second is written, or the writer failed in it
  pub both_put : (a b : List ℕ) (s : Status) → Appends old.bytes mid.bytes a → IsPut mid new b s → IsPut old new (a ++ b) s
  both_put a b status.Done first k = (k.0 ∙ same, Appends-trans old.bytes mid.bytes new.bytes a b first k.1)
  both_put a b status.Failed first k = (
    gives_up_later k.0,
    a ++ k.1,
    k.2,
    ap (λ (t : List ℕ). a ++ t) k.3 ∙ sym (append_assoc a k.1 k.2),
    Appends-trans old.bytes mid.bytes new.bytes a k.1 first k.4,
  )
  both_put a b status.Refused first k = absurd k
  both_put a b status.Misused first k = absurd k
