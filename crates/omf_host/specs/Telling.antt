-- The lines of a program on files that it cannot read or write (this profile's rules).
use Rattle.std.specs.Prelude.{◌≡◌, ℕ, List, [], ◌++◌, codes, Option, Some, None, option_map, if◌then◌else◌}
use Rattle.omf_frame.specs.Device.{Device}
use Rattle.omf_placement.specs.Quoted.{quoted}
use Rattle.omf_host.specs.Lines.{failure_line}
use Rattle.omf_host.specs.Outputs.{is_standard}
use Rattle.omf_host.specs.Streams.{IsTold, IsToldFailure}
use Rattle.omf_host.specs.declared.ending.Status.{Status}
use Rattle.omf_host.specs.declared.ending.Status.TheVariants as status
use Rattle.omf_host.specs.declared.writing.Unwritten.{Unwritten}

-- A file that could not be read is named with the system's reason; of one that is read there is no line.
abbrev pub SaysUnread : {T : Type 0} → List ℕ → List ℕ → Option T → Device → Device → Type 0
SaysUnread program file (Some _) old new = new ≡ old
SaysUnread program file None old new = IsToldFailure program (codes "read") file old new

-- Why an output could not be written; the standard output has its line at the end of the program.
abbrev pub reason_line : List ℕ → List ℕ → List ℕ
reason_line name reason = if is_standard name then [] else failure_line (codes "write") name reason

-- An output that is written nevertheless.
abbrev pub written_line : Option (List ℕ) → List ℕ
written_line None = []
written_line (Some name) = quoted name ++ codes " is written\n"

abbrev pub unwritten_lines : Unwritten → List ℕ → List ℕ
unwritten_lines u reason = reason_line u.name.now reason ++ (written_line (option_map (λ w. w.now) u.written) ++ written_line (option_map (λ w. w.now) u.also))

-- A text grows by these lines, with some reason: the system's own words.
abbrev pub AddsReason : List ℕ → List ℕ → List ℕ → Type 0
AddsReason name old new = (reason : List ℕ) × (new ≡ old ++ reason_line name reason)

abbrev pub AddsUnwritten : Unwritten → List ℕ → List ℕ → Type 0
AddsUnwritten u old new = (reason : List ℕ) × (new ≡ old ++ unwritten_lines u reason)

-- The lines on the outputs of a run: none where all are written.
abbrev pub SaysLeft : List ℕ → Option Unwritten → Device → Device → Type 0
SaysLeft program None old new = new ≡ old
SaysLeft program (Some u) old new = (reason : List ℕ) × IsTold program (unwritten_lines u reason) old new

abbrev pub left_status : Option Unwritten → Status
left_status None = status.Done
left_status (Some _) = status.Failed
