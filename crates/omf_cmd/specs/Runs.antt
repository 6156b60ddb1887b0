-- What a run writes, and which device failed.
use Rattle.std.specs.Prelude.{◌≡◌, ◌⊎◌, ◌≤◌, ℕ, ◌++◌, List, [], Option, Some, Result, Ok, Err}
use Rattle.std.specs.Io.KnownBytes.{Appends, Keeps}
use Rattle.omf_frame.specs.Device.{Device, GivesUp, HasFailed}
use Rattle.omf_cmd.specs.declared.fault.RunFault.{RunFault}
use Rattle.omf_cmd.specs.declared.fault.RunFault.TheVariants as fault

-- The device did not break. It may have been interrupted.
abbrev pub IsUnbroken : Device → Device → Type 0
IsUnbroken old new = (new.breaks ≡ old.breaks) × (old.failures ≤ new.failures)

-- The device failed: by a break, or by the last of 1,000 interruptions in a row.
abbrev pub HasGivenUp : Device → Device → Type 0
HasGivenUp old new = HasFailed old.failures new.failures × GivesUp old new

-- A result of reading: it names the reader if that failed, and never the writer.
abbrev pub IsReadCause : {A : Type 0} → Device → Device → Result A RunFault → Type 0
IsReadCause old new (Err fault.Read) = HasGivenUp old new
IsReadCause old new (Err fault.Write) = ⊥
IsReadCause old new _ = IsUnbroken old new

-- A result of printing: it fails if memory ran out, or names the writer if that failed.
abbrev pub IsPrintCause : Device → Device → Result (Unit {0}) RunFault → Type 0
IsPrintCause old new (Ok done) = IsUnbroken old new
IsPrintCause old new (Err fault.Memory) = IsUnbroken old new
IsPrintCause old new (Err fault.Write) = HasGivenUp old new
IsPrintCause old new (Err _) = ⊥

-- A result of a run: it names the reader or the writer if that failed. A device that is not named did not break.
abbrev pub IsCausedBy : Device → Device → Device → Device → Result (Unit {0}) RunFault → Type 0
IsCausedBy reader reader' writer writer' (Err fault.Read) = HasGivenUp reader reader' × IsUnbroken writer writer'
IsCausedBy reader reader' writer writer' (Err fault.Write) = IsUnbroken reader reader' × HasGivenUp writer writer'
IsCausedBy reader reader' writer writer' _ = IsUnbroken reader reader' × IsUnbroken writer writer'

-- A front of the text was written: all of it, a part, or nothing.
abbrev pub IsPart : Option (List ℕ) → Option (List ℕ) → List ℕ → Type 0
IsPart old new text = (front : List ℕ) × (back : List ℕ) × (text ≡ front ++ back) × Appends old new front

-- What is written of a text: all of it, a front of it if the writer failed, nothing at any other fault.
abbrev pub Prints : Option (List ℕ) → Option (List ℕ) → Result (Unit {0}) RunFault → List ℕ → Type 0
Prints old new (Ok done) text = Appends old new text
Prints old new (Err fault.Write) text = IsPart old new text
Prints old new (Err e) text = Keeps old new

-- The whole text was written, or a front of it if the writer failed.
abbrev pub IsWritten : Device → Device → List ℕ → Type 0
IsWritten old new text = (IsUnbroken old new × Appends old.bytes new.bytes text) ⊎ (HasGivenUp old new × IsPart old.bytes new.bytes text)

-- What is written of a text in pieces: all of it, a front of it if the writer failed or memory ran out, nothing at any other fault.
abbrev pub PrintsInPieces : Option (List ℕ) → Option (List ℕ) → Result (Unit {0}) RunFault → List ℕ → Type 0
PrintsInPieces old new (Err fault.Memory) text = IsPart old new text
PrintsInPieces old new ran text = Prints old new ran text

-- What is written of an answer: a text, or a front of it if the writer failed, which is then the fault `unwritten`; nothing of a fault.
abbrev pub PrintsOr : {F : Type 0} → F → Device → Device → Result (List ℕ) F → Result (Unit {0}) F → Type 0
PrintsOr unwritten old new (Ok text) (Ok done) = IsUnbroken old new × Appends old.bytes new.bytes text
PrintsOr unwritten old new (Ok text) (Err e) = (e ≡ unwritten) × HasGivenUp old new × IsPart old.bytes new.bytes text
PrintsOr unwritten old new (Err f) ran = (ran ≡ Err f) × (new ≡ old)
