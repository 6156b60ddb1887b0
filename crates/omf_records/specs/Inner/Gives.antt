-- The results of the functions that read.
use Rattle.std.specs.Prelude.{◌≡◌, ℕ, ◌+◌, ◌≤◌, Bool, List, length, take, drop, Result, Ok, Err}
use Rattle.omf_frame.specs.Fault.{Fault}
use Rattle.omf_frame.specs.Fields.{IsUnspelled}
use Rattle.omf_frame.specs.declared.fault.Reason.TheVariants as reason
use Rattle.omf_records.specs.declared.here.Here.{Here}
use Rattle.omf_records.specs.Layout.{fault}
use Rattle.omf_records.specs.Inner.Reads.{After}

-- The result of a function is that of the reading, and the position after it is in a record of the same width.
abbrev pub Gives : {A : Type 0} → Bool → Result (A × Here) Fault → Result (After A) Fault → Type 0
Gives w (Ok x) read = (read ≡ Ok (record { value = x.0; within = x.1.within; rest = x.1.bytes.now })) × (x.1.wide ≡ w)
Gives w (Err e) read = read ≡ Err e

-- The result of a function is the field at the front, or Short if there is none.
abbrev pub GivesField : {A : Type 0} → (A → List ℕ → Type 0) → Bool → ℕ → List ℕ → Result (A × Here) Fault → Type 0
GivesField spells w at bytes (Ok x) =
    (n : ℕ) × (n ≤ length bytes) × spells x.0 (take n bytes) × (x.1.within ≡ at + n) × (x.1.bytes.now ≡ drop n bytes) × (x.1.wide ≡ w)
GivesField spells w at bytes (Err e) = (e ≡ fault at reason.Short) × IsUnspelled spells bytes
