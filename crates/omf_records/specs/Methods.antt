-- Frame and target methods, alignments and combinations by their numbers (TIS OMF 1.1, "FIXUPP", "SEGDEF").
use denote.Enum.Declared.{tag_of}
use Rattle.std.specs.Prelude.{ℕ, ◌==◌, if◌then◌else◌, List, [], ◌∷◌, Result, Ok, Err}
use Rattle.omf_frame.specs.declared.fault.Reason.{Reason}
use Rattle.omf_records.specs.contracts.method.Kind.{the_type}
use Rattle.omf_records.specs.declared.method.Kind.{Kind}
use Rattle.omf_records.specs.declared.method.Kind.TheVariants.{Segment, Group, External}
use Rattle.omf_records.specs.declared.method.FrameCode.{FrameCode}
use Rattle.omf_records.specs.declared.method.FrameCode.TheVariants.{Of, Location, Target}
use Rattle.omf_records.specs.declared.acbp.Alignment.{Alignment}
use Rattle.omf_records.specs.declared.acbp.Alignment.TheVariants as alignment
use Rattle.omf_records.specs.declared.acbp.Combination.{Combination}
use Rattle.omf_records.specs.declared.acbp.Combination.TheVariants as combination

-- Target methods T0, T1, T2: the place of the kind in the declaration of Kind, from 0.
abbrev pub kind_number : Kind → ℕ
kind_number k = tag_of the_type k

-- Frame methods F0, F1, F2, F4, F5.
abbrev pub frame_number : FrameCode → ℕ
frame_number (Of kind) = kind_number kind
frame_number Location = 4
frame_number Target = 5

-- The method with a number. Other numbers are refused (wrong_methods, wrong_thread).
abbrev pub kind_of : ℕ → Kind
kind_of n = if n == 0 then Segment else (if n == 1 then Group else External)

abbrev pub frame_code : ℕ → FrameCode
frame_code n = if n == 0 then Of Segment else (if n == 1 then Of Group else (if n == 2 then Of External else (if n == 4 then Location else Target)))

-- The number in SEGDEF's A field.
abbrev pub alignment_number : Alignment → ℕ
alignment_number alignment.Absolute = 0
alignment_number alignment.Byte = 1
alignment_number alignment.Word = 2
alignment_number alignment.Paragraph = 3
alignment_number alignment.Page = 4
alignment_number alignment.Dword = 5

-- The number in SEGDEF's C field.
abbrev pub combination_number : Combination → ℕ
combination_number combination.Private = 0
combination_number combination.Reserved1 = 1
combination_number combination.Public = 2
combination_number combination.Reserved3 = 3
combination_number combination.Public4 = 4
combination_number combination.Stack = 5
combination_number combination.Common = 6
combination_number combination.Public7 = 7

-- The reason that a constructor gives.
abbrev pub refusal : Result ℕ Reason → List Reason
refusal (Ok n) = []
refusal (Err r) = r ∷ []

-- A number of packed bits, or the first of the reasons to refuse it.
abbrev pub judged : List Reason → ℕ → Result ℕ Reason
judged [] n = Ok n
judged (r ∷ rs) n = Err r
