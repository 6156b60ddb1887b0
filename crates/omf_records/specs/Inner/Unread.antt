-- Items that are checked as they are read.
use Rattle.std.specs.Prelude.{◌≡◌, ◌<◌, ℕ, List, [], Option, Some, None, Result, Ok, Err}
use Rattle.omf_frame.specs.Fault.{Fault}
use Rattle.omf_records.specs.Values.{At, Subrecord, Contents, Fixups}
use Rattle.omf_records.specs.Inner.Reads.{and_then}
use Rattle.omf_records.specs.Inner.Each.{with_first}

-- the remaining items or the first fault among them, the items in front of the fault or of the end, and the number of the remaining bytes
pub record Pending (A : Type 0) : Type 0 where
  pub items : Result (List (At A)) Fault
  pub front : List (At A)
  pub size : ℕ

-- the next reading: the first item, before the others; or the end, or the fault, and then nothing changes
abbrev pub NextGives : {A : Type 0} → Pending A → Result (Option (At A)) Fault → Pending A → Type 0
NextGives old (Ok None) new = (old.items ≡ Ok []) × (new ≡ old)
NextGives old (Ok (Some x)) new = (old.items ≡ with_first x new.items) × (new.size < old.size)
NextGives old (Err f) new = (old.items ≡ Err f) × (new ≡ old)

-- contents from subrecords
abbrev pub fixups_read : Result (List (At Subrecord)) Fault → Result Contents Fault
fixups_read r = and_then r (λ subs. Ok (Fixups subs))
