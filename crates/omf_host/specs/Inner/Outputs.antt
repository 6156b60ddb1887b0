-- Which outputs that are ready go on the standard output.
use Rattle.std.specs.Prelude.{◌≡◌, ◌⊎◌, ⊤, ℕ, List, Bool, true, false, Option, Some, None}
use Rattle.omf_frame.specs.Device.{Device}
use Rattle.omf_host.specs.declared.writing.OutputFile.{OutputFile}
use Rattle.omf_host.specs.declared.writing.Ready.{Ready}
use Rattle.omf_host.specs.declared.writing.Ready.TheVariants as ready
use Rattle.omf_host.specs.declared.writing.Unwritten.{Unwritten}
use Rattle.omf_host.specs.Outputs.{IsNoneWritten, IsPutIf, is_standard}

abbrev pub goes_on_output : Ready → Bool
goes_on_output ready.Standard = true
goes_on_output _ = false

-- What is on the standard output where two outputs that were ready are written.
abbrev pub ArePutIf : Ready × OutputFile → Ready × OutputFile → Device → Device → Option Unwritten → Type 0
ArePutIf first second old new None = (between : Device) × IsPutIf (goes_on_output first.0) first.1.bytes.now old between × IsPutIf (goes_on_output second.0) second.1.bytes.now between new
ArePutIf first second old new (Some _) = ⊤

-- The same of three.
abbrev pub AreThreePutIf : Ready × OutputFile → Ready × OutputFile → Ready × OutputFile → Device → Device → Option Unwritten → Type 0
AreThreePutIf first second third old new None =
    (one : Device) × (two : Device) × IsPutIf (goes_on_output first.0) first.1.bytes.now old one × IsPutIf (goes_on_output second.0) second.1.bytes.now one two × IsPutIf (goes_on_output third.0) third.1.bytes.now two new
AreThreePutIf first second third old new (Some _) = ⊤

-- Two outputs that are ready; or the one that is not.
abbrev pub AreReady : OutputFile → OutputFile → Ready × Ready → Type 0
AreReady first second r = (goes_on_output r.0 ≡ is_standard first.name.now) × (goes_on_output r.1 ≡ is_standard second.name.now)

abbrev pub IsNotReady : List ℕ → List ℕ → Unwritten → Type 0
IsNotReady first second u = ((u.name.now ≡ first) ⊎ (u.name.now ≡ second)) × IsNoneWritten u
