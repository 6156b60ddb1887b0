-- The framing fault as the code computes it. proofs/Judged.antt shows that it is `standing_fault`.
use Rattle.std.specs.Prelude.{ℕ, ◌+◌, ◌*◌, ◌%◌, Bool, not, ◌||◌, ◌==◌, nat_le, if◌then◌else◌, List, [], ◌∷◌, length, sum, slice_index, Option, Some, None}
use Rattle.std.specs.Option.{option_or}
use Rattle.omf_frame.specs.Inner.Names.{is_unsupported}
use Rattle.omf_frame.specs.declared.fault.Reason.{Reason}
use Rattle.omf_frame.specs.declared.fault.Reason.TheVariants.{UnknownType, UnsupportedType, EmptyRecord, Checksum, NoHeader}
use Rattle.omf_frame.specs.Fault.{Fault}
use Rattle.omf_frame.specs.Framing.{is_taken, is_header}

-- a reason and an offset in the record, as a fault
abbrev pub found : Reason × ℕ → Fault
found f = record { within = f.1; reason = f.0 }

-- the fault of the type byte
unfoldable pub type_fault : List ℕ → Option (Reason × ℕ)
type_fault [] = None
type_fault (t ∷ rest) =
    if is_unsupported t then Some (UnsupportedType, 0) else if is_taken t then None else Some (UnknownType, 0)

-- the fault of a complete record of a supported type
unfoldable pub whole_fault : Bool → List ℕ → Option (Reason × ℕ)
whole_fault is_first [] = None
whole_fault is_first (t ∷ []) = None
whole_fault is_first (t ∷ lo ∷ []) = None
whole_fault is_first (t ∷ lo ∷ hi ∷ rest) =
    let stated : ℕ = lo + 256 * hi in
    let bytes : List ℕ = t ∷ lo ∷ hi ∷ rest in
    if not (nat_le stated (length rest)) then None
    else if stated == 0 then Some (EmptyRecord, 1)
    else if not ((slice_index bytes (2 + stated) == 0) || (sum bytes % 256 == 0)) then Some (Checksum, 2 + stated)
    else if not (not is_first || is_header t) then Some (NoHeader, 0)
    else None

-- the first fault of the bytes present
abbrev pub fault_of : Bool → List ℕ → Option (Reason × ℕ)
fault_of is_first bytes = option_or (type_fault bytes) (whole_fault is_first bytes)
