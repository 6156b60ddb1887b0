-- What is left of the outputs of a run, and what is on its standard output (this profile's rules).
use Rattle.std.specs.Prelude.{◌≡◌, ◌⊎◌, ⊤, ℕ, List, Bool, true, false, Option, Some, None, option_map, codes, bytes_eq}
use Rattle.std.specs.Io.KnownBytes.{Appends}
use Rattle.omf_frame.specs.Device.{Device}
use Rattle.omf_host.specs.declared.writing.OutputFile.{OutputFile}
use Rattle.omf_host.specs.declared.writing.Unwritten.{Unwritten}

-- What is written though an output failed: nothing, one output, or two. All others are as they were before.
abbrev pub IsNoneWritten : Unwritten → Type 0
IsNoneWritten u = (u.written ≡ None) × (u.also ≡ None)

abbrev pub IsOneWritten : List ℕ → Unwritten → Type 0
IsOneWritten first u = (option_map (λ w. w.now) u.written ≡ Some first) × (u.also ≡ None)

abbrev pub AreTwoWritten : List ℕ → List ℕ → Unwritten → Type 0
AreTwoWritten first second u = (option_map (λ w. w.now) u.written ≡ Some first) × (option_map (λ w. w.now) u.also ≡ Some second)

-- The output that failed, and what is written nevertheless: none, or those before it.
abbrev pub IsLeft : List ℕ → Option (List ℕ) → Option Unwritten → Type 0
IsLeft first second None = ⊤
IsLeft first second (Some u) = ((u.name.now ≡ first) × IsNoneWritten u) ⊎ ((second ≡ Some u.name.now) × (IsNoneWritten u ⊎ IsOneWritten first u))

-- The same of three outputs.
abbrev pub AreLeft : List ℕ → List ℕ → List ℕ → Option Unwritten → Type 0
AreLeft first second third None = ⊤
AreLeft first second third (Some u) =
    ((u.name.now ≡ first) × IsNoneWritten u)
    ⊎ (((u.name.now ≡ second) × (IsNoneWritten u ⊎ IsOneWritten first u)) ⊎ ((u.name.now ≡ third) × (IsNoneWritten u ⊎ AreTwoWritten first second u)))

-- Whether a name is that of the standard output.
abbrev pub is_standard : List ℕ → Bool
is_standard name = bytes_eq name (codes "-")

-- What is on the standard output after an output is written: its bytes if that is where it goes, and else what was there.
abbrev pub IsPutIf : Bool → List ℕ → Device → Device → Type 0
IsPutIf true bytes old new = Appends old.bytes new.bytes bytes
IsPutIf false bytes old new = new ≡ old

abbrev pub IsOnOutput : OutputFile → Device → Device → Type 0
IsOnOutput file old new = IsPutIf (is_standard file.name.now) file.bytes.now old new

-- The same after both outputs of a run are written, one after the other.
abbrev pub AreOnOutput : OutputFile → Option OutputFile → Device → Device → Type 0
AreOnOutput first None old new = IsOnOutput first old new
AreOnOutput first (Some second) old new = (between : Device) × IsOnOutput first old between × IsOnOutput second between new

-- What is on the standard output where all outputs are written.
abbrev pub AreAllOnOutput : OutputFile → Option OutputFile → Device → Device → Option Unwritten → Type 0
AreAllOnOutput first second old new None = AreOnOutput first second old new
AreAllOnOutput first second old new (Some _) = ⊤

-- The same of three outputs.
abbrev pub AreThreeOnOutput : OutputFile → OutputFile → OutputFile → Device → Device → Option Unwritten → Type 0
AreThreeOnOutput first second third old new None = (one : Device) × (two : Device) × IsOnOutput first old one × IsOnOutput second one two × IsOnOutput third two new
AreThreeOnOutput first second third old new (Some _) = ⊤
