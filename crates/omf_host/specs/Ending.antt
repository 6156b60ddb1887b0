-- How a program ends, and what it has written then (this profile's rule).
use Rattle.std.specs.Prelude.{◌≡◌, ℕ, ◌++◌, List, Bool, false}
use Rattle.std.specs.Io.KnownBytes.{Appends}
use Rattle.omf_frame.specs.Device.{Device, GivesUp}
use Rattle.omf_host.specs.declared.ending.Status.{Status}
use Rattle.omf_host.specs.declared.ending.Status.TheVariants as status

-- The exit status: 0 done, 1 something is refused, 2 the arguments are not understood, 3 a file or the output failed, or
-- memory ran out.
abbrev pub exit_code : Status → ℕ
exit_code status.Done = 0
exit_code status.Refused = 1
exit_code status.Misused = 2
exit_code status.Failed = 3

-- A text is put on a writer: all of it, or, if the writer failed, a front of it.
abbrev pub IsPut : Device → Device → List ℕ → Status → Type 0
IsPut old new text status.Done = (new.breaks ≡ old.breaks) × Appends old.bytes new.bytes text
IsPut old new text status.Failed = GivesUp old new × (front : List ℕ) × (back : List ℕ) × (text ≡ front ++ back) × Appends old.bytes new.bytes front
IsPut old new text _ = ⊥

-- The status after the output was flushed, or could not be: what was done has failed if it was not flushed.
abbrev pub flushed_status : Status → Bool → Status
flushed_status status.Done false = status.Failed
flushed_status s _ = s
