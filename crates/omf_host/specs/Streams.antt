-- What a program writes on its two streams (this profile's rules). What it is asked for is on its output; faults, warnings and how it is called
-- after a mistake are on the standard error, each line after the program's name.
use Rattle.std.specs.Prelude.{◌≡◌, ◌⊎◌, ℕ, ◌==◌, Bool, true, false, if◌then◌else◌, List, [], ◌∷◌, ◌++◌, codes, Option, Some, None}
use Rattle.std.specs.IoError.{error_kind}
use Rattle.std.specs.declared.io.Error.{Error}
use Rattle.std.specs.declared.io.ErrorKind.{ErrorKind}
use Rattle.std.specs.declared.io.ErrorKind.TheVariants as kind
use Rattle.omf_frame.specs.Device.{Device}
use Rattle.omf_host.specs.declared.clash.Clash.{Clash}
use Rattle.omf_host.specs.declared.ending.Status.{Status}
use Rattle.omf_host.specs.declared.ending.Status.TheVariants as status
use Rattle.omf_host.specs.Ending.{IsPut}
use Rattle.omf_host.specs.Lines.{failure_line}
use Rattle.omf_host.specs.Spots.{clash_line}

-- What is before each line: the program's name and a colon.
abbrev pub front : List ℕ → List ℕ
front name = name ++ codes ": "

-- A text with words before each of its lines: before its first byte if it begins a line, and before each byte after a line feed.
abbrev pub fronted : List ℕ → List ℕ → Bool → List ℕ
fronted words [] begins = []
fronted words (c ∷ text) begins = (if begins then words else []) ++ c ∷ fronted words text (c == 10)

-- The lines of a program on the standard error.
abbrev pub told_lines : List ℕ → List ℕ → List ℕ
told_lines name text = fronted (front name) text true

-- A text is written: all of it, or, if the device failed, a front of it.
abbrev pub IsTried : List ℕ → Device → Device → Type 0
IsTried text old new = (wrote : Status) × IsPut old new text wrote

-- Lines are written on the standard error, each after the program's name.
abbrev pub IsTold : List ℕ → List ℕ → Device → Device → Type 0
IsTold name text old new = IsTried (told_lines name text) old new

-- The line where memory ran out.
abbrev pub memory_line : List ℕ → List ℕ
memory_line name = name ++ (codes ": memory" ++ 10 ∷ [])

-- Warnings are on the standard error; or memory ran out for that.
abbrev pub Warns : Status → List ℕ → List ℕ → Device → Device → Type 0
Warns status.Done name lines old new = IsTold name lines old new
Warns status.Failed name lines old new = IsTried (memory_line name) old new
Warns _ name lines old new = ⊥

-- Why an output that failed has no line: its reader has closed the pipe.
abbrev pub is_closed : ErrorKind → Bool
is_closed kind.BrokenPipe = true
is_closed _ = false

-- What failed for a file is on the standard error, with the system's reason.
abbrev pub IsToldFailure : List ℕ → List ℕ → List ℕ → Device → Device → Type 0
IsToldFailure name what file old new = (reason : List ℕ) × IsTold name (failure_line what file reason) old new

-- The same of an output that failed.
abbrev pub IsToldUnwritten : List ℕ → Device → Device → Type 0
IsToldUnwritten name old new = IsToldFailure name (codes "write") (codes "standard output") old new

-- The same; or memory ran out for that.
abbrev pub SaysUnwritten : List ℕ → Device → Device → Type 0
SaysUnwritten name old new = IsToldUnwritten name old new ⊎ IsTried (memory_line name) old new

abbrev pub SaysUnless : Bool → List ℕ → Device → Device → Type 0
SaysUnless true name old new = new ≡ old
SaysUnless false name old new = SaysUnwritten name old new

-- The line at the end, by the error of the output.
abbrev pub SaysFailure : List ℕ → Option Error → Device → Device → Type 0
SaysFailure name None old new = new ≡ old
SaysFailure name (Some e) old new = SaysUnless (is_closed (error_kind e)) name old new

-- An output that is an input, or the other output, is named on the standard error; where there is none, nothing is written there.
abbrev pub SaysClash : List ℕ → Option Status → Device → Device → Type 0
SaysClash program None old new = new ≡ old
SaysClash program (Some s) old new = (s ≡ status.Misused) × (name : List ℕ) × (why : Clash) × IsTried (clash_line program name why) old new
