-- The line printed for a fault (this profile's rule).
use Rattle.std.specs.Prelude.{ℕ, List, [], ◌∷◌, ◌++◌, codes, decimal}
use Rattle.omf_frame.specs.Fault.{reason_name, reason_number}
use Rattle.omf_reloc.specs.declared.fault.Kind.{Kind}
use Rattle.omf_reloc.specs.declared.fault.Kind.TheVariants as kinds
use Rattle.omf_reloc.specs.declared.fault.Cause.{Cause}
use Rattle.omf_reloc.specs.declared.fault.Cause.TheVariants as cause
use Rattle.omf_reloc.specs.declared.fault.ReachFault.{ReachFault}
use Rattle.omf_reloc.specs.declared.fault.ReachFault.TheVariants as reach
use Rattle.omf_placement.specs.Entries.{in_words}
use Rattle.omf_cmd.specs.declared.fault.RunFault.{RunFault}
use Rattle.omf_cmd.specs.declared.fault.RunFault.TheVariants as fault

-- The names of kinds and causes.
abbrev pub kind_name : Kind → List ℕ
kind_name kinds.Segment = codes "segment"
kind_name kinds.Group = codes "group"
kind_name kinds.External = codes "external"

abbrev pub cause_name : Cause → List ℕ
cause_name cause.Target = codes "Target"
cause_name cause.Location = codes "Location"
cause_name cause.Distance = codes "Distance"

-- A placement that does not fit, or a fixup out of range: number, name and details.
abbrev pub reach_words : ReachFault → List (List ℕ)
reach_words (reach.Missing k i) = codes "1" ∷ codes "Missing" ∷ kind_name k ∷ decimal i ∷ []
reach_words (reach.Extra k i) = codes "2" ∷ codes "Extra" ∷ kind_name k ∷ decimal i ∷ []
reach_words (reach.Absolute i) = codes "3" ∷ codes "Absolute" ∷ decimal i ∷ []
reach_words (reach.TooFar number within c) = codes "4" ∷ codes "TooFar" ∷ cause_name c ∷ codes "record" ∷ decimal number ∷ codes "within" ∷ decimal within ∷ []

abbrev pub fault_words : RunFault → List (List ℕ)
fault_words fault.Memory = codes "memory" ∷ []
fault_words fault.Read = codes "read" ∷ []
fault_words fault.Write = codes "write" ∷ []
fault_words (fault.Refused r p) = codes "refused" ∷ decimal (reason_number r) ∷ reason_name r ∷ codes "record" ∷ decimal p.number ∷ codes "at" ∷ decimal p.start ∷ codes "within" ∷ decimal p.within ∷ []
fault_words (fault.Line n) = codes "placement" ∷ codes "line" ∷ decimal n ∷ []
fault_words fault.TooLong = codes "placement" ∷ codes "too" ∷ codes "long" ∷ []
fault_words (fault.Reach f) = codes "reach" ∷ reach_words f

-- The line, without its line feed.
abbrev pub fault_line : RunFault → List ℕ
fault_line f = in_words (fault_words f)

-- What a fault means.
abbrev pub fault_sentence : RunFault → List ℕ
fault_sentence fault.Memory = codes "memory ran out"
fault_sentence fault.Read = codes "the input could not be read"
fault_sentence fault.Write = codes "the output could not be written"
fault_sentence (fault.Refused r p) = codes "the input does not begin with a well-formed module"
fault_sentence (fault.Line n) = codes "a line of the placement gives no entry"
fault_sentence fault.TooLong = codes "the placement has more than 4,194,304 bytes"
fault_sentence (fault.Reach f) = codes "the placement does not reach"

-- The text printed for a fault: its line and a line feed; nothing if the writer failed.
abbrev pub fault_text : RunFault → List ℕ
fault_text fault.Write = []
fault_text f = fault_line f ++ 10 ∷ []
