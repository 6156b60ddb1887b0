-- The results of the calls that link modules (this profile's rule).
use Rattle.std.specs.Prelude.{◌≡◌, ℕ, List, Option, Some, None, Result, Ok, Err}
use Rattle.omf_frame.specs.Fault.{reason_number}
use Rattle.omf_placement.specs.declared.several.fault.DeriveFault.{DeriveFault}
use Rattle.omf_placement.specs.declared.several.fault.DeriveFault.TheVariants as derive
use Rattle.omf_linking.specs.declared.fault.LinkFault.{LinkFault}
use Rattle.omf_linking.specs.declared.fault.LinkFault.TheVariants as link
use Rattle.omf_linking.specs.declared.locator.fault.LineFault.{LineFault}
use Rattle.omf_linking.specs.declared.locator.fault.LineFault.TheVariants as why
use Rattle.omf_linking.specs.declared.space.fault.MemoryFault.{MemoryFault}
use Rattle.omf_linking.specs.declared.space.fault.MemoryFault.TheVariants as space
use Rattle.omf_linking.specs.declared.space.stretch.Owner.{Owner}
use Rattle.omf_output.specs.declared.rom.form.Chip.{Chip}
use Rattle.omf_output.specs.declared.rom.form.Form.TheVariants.{Binary}
use Rattle.omf_linker.specs.Link.Shown.{IsShownOf}
use Rattle.omf_lines.specs.declared.fault.ImageFault.{ImageFault}
use Rattle.omf_lines.specs.declared.fault.ImageFault.TheVariants as image
use Rattle.omf_linker.specs.declared.link.words.Task.TheVariants.{Rom}
use Rattle.omf_c.specs.Answers.{HandsOut, done, of_reach}
use Rattle.omf_c.specs.declared.answer.Answer.{Answer}

-- The result for modules that are not linked, by the number of the reason alone.
abbrev pub unlinked : ℕ → Answer
unlinked reason = record done { status = 10; reason = reason }

-- The number of why a line of a text does not fit.
abbrev pub why_number : LineFault → ℕ
why_number why.NotUnderstood = 1
why_number why.NoModule = 2
why_number why.Unknown = 3
why_number why.Several = 4
why_number why.Twice = 5
why_number why.Unshared = 6
why_number why.NothingBefore = 7
why_number why.NoRoom = 8

-- An external without a place; modules count from 0.
abbrev pub of_derive : DeriveFault → Answer
of_derive derive.Memory = record done { status = 1 }
of_derive (derive.Undefined j i) = record (unlinked 3) { index = i; record_count = j }
of_derive (derive.Twice j i) = record (unlinked 4) { index = i; record_count = j }
of_derive (derive.TooHigh j i) = record (unlinked 5) { index = i; record_count = j }

-- Segments that do not fit into one memory: the segment; or the address, the one segment, and the other.
abbrev pub of_space : MemoryFault → Answer
of_space space.Memory = record done { status = 1 }
of_space (space.Beyond o) = record (unlinked 7) { index = o.segment; record_count = o.«module» }
of_space (space.Overlap a s t) = record (unlinked 8) { index = s.segment; record_count = s.«module»; start = a; number = t.«module»; within = t.segment }

-- Modules that are not linked.
abbrev pub of_link : LinkFault → Answer
of_link link.Memory = record done { status = 1 }
of_link link.Read = record done { status = 2 }
of_link (link.Refused j why at) = record done { status = 4; reason = reason_number why; number = at.number; within = at.within; start = at.start; record_count = j }
of_link (link.NoText at) = record (unlinked 1) { size = at }
of_link link.NoModules = unlinked 2
of_link (link.Line n w) = record done { status = 5; reason = why_number w; line = n }
of_link (link.External f) = of_derive f
of_link (link.Reach j f) = record (of_reach f) { record_count = j }
of_link (link.Starts j k) = record (unlinked 6) { record_count = j; size = k }
of_link (link.Space f) = of_space f

-- A byte at an address outside: the address, and the first segment with a byte there.
abbrev pub outside : ℕ → Option Owner → Answer
outside a None = record (unlinked 9) { start = a }
outside a (Some o) = record (unlinked 9) { start = a; index = o.segment; record_count = o.«module» }

abbrev pub of_image : ImageFault → Answer
of_image (image.Link f) = of_link f
of_image (image.Lines f lines) = of_link f
of_image (image.Outside a o lines) = outside a o
of_image image.NoRoom = unlinked 10
of_image image.Write = record done { status = 3 }

-- The result for the bytes that a task makes, or for the fault in their place. A fault leaves the buffer unchanged.
abbrev pub ShowsLinked : Result (List ℕ) ImageFault → Answer → List ℕ → List ℕ → Type 0
ShowsLinked (Ok bytes) answer old new = HandsOut bytes answer old new
ShowsLinked (Err f) answer old new = (answer ≡ of_image f) × (new ≡ old)

-- The memory of the modules of an input at the placements of the text after them, as the bytes of a chip.
abbrev pub IsChipAnswered : Chip → List ℕ → Answer → List ℕ → List ℕ → Type 0
IsChipAnswered chip input answer old new = (made : Result (List ℕ) ImageFault) × IsShownOf (Rom (Binary chip)) input made × ShowsLinked made answer old new
