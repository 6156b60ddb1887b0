-- Names for parts of definitions, used in proofs and in contracts of private functions.

use Rattle.omf_frame.specs.Framing.{is_end_of_input}
use Rattle.std.specs.Prelude.{ℕ, List, flat_map, IsTrue, All, Bool, Option, Some, None, option_and_then, if◌then◌else◌, is_some, slice_get}
use Rattle.omf_frame.specs.declared.kinds.RecordType.{RecordType}
use Rattle.omf_frame.specs.Types.{row, is_treated}
use Rattle.omf_frame.specs.Fault.{Rule, Fault}
use Rattle.omf_frame.specs.declared.kinds.Treatment.TheVariants.{Refused}

-- The type bytes of some types.
abbrev pub types_of : List RecordType → List ℕ
types_of types = flat_map (λ t. (row t).bytes) types

-- all rules hold
abbrev pub AreKept : List Rule → Type 0
AreKept rules = All (λ r. IsTrue r.holds) rules

-- The type is known, and a module with such a record is refused.
abbrev pub is_unsupported : ℕ → Bool
is_unsupported kind = is_treated Refused kind

-- there is a byte
abbrev pub is_nonempty : List ℕ → Bool
is_nonempty bytes = is_some (slice_get bytes 0)

-- the fault, if more input cannot remove it
abbrev pub lasting : Option Fault → Option Fault
lasting o = option_and_then (λ f. if is_end_of_input f.reason then None else Some f) o
