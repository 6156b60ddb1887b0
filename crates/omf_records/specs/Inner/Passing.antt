-- FIXUPs that use no thread and have no fault, and are passed without being kept.
use Rattle.std.specs.Prelude.{◌≡◌, ◌≤◌, ◌<◌, ◌+◌, ℕ, List, [], ◌∷◌, get_or, nat_lt, Bool, true, false, Option, Some, None, Result, Ok}
use Rattle.omf_frame.specs.Fault.{Fault}
use Rattle.omf_records.specs.declared.here.Here.{Here}
use Rattle.omf_records.specs.Inner.Names.{location_size}
use Rattle.omf_records.specs.Inner.Reads.{After, after}
use Rattle.omf_records.specs.Inner.Unread.{Pending, NextGives}
use Rattle.omf_records.specs.Values.{At, Reference, Subrecord, Thread, Fixup, location_type, location_offset, frame_by_thread, frame_bits, target_by_thread, target_bits}

-- The value read satisfies P, and reading stopped here, in a record of the same width.
pub record Passes {A : Type 0} (P : A → Type 0) (wide : Bool) (read : Result (After A) Fault) (here : Here) : Type 0 where
  pub value : A
  pub is : read ≡ Ok (after value here.within here.bytes.now)
  pub same : here.wide ≡ wide
  pub holds : P value

-- An index that is there, of an entry of a table of `count` entries.
abbrev pub IsEntry : ℕ → Option (At ℕ) → Type 0
IsEntry count None = ⊥
IsEntry count (Some a) = (1 ≤ a.item) × (a.item ≤ count)

-- The location is within data of `size` bytes.
abbrev pub IsWithin : ℕ → ℕ → Type 0
IsWithin size locat = location_offset locat + location_size (location_type locat) ≤ size

-- A reference that uses no thread, and whose indices are those of entries: `counts` has the number of entries by the number of a method.
pub record IsDefined (counts : List ℕ) (r : Reference) : Type 0 where
  pub own_frame : frame_by_thread r.fix.item ≡ false
  pub own_target : target_by_thread r.fix.item ≡ false
  pub kind : target_bits r.fix.item < 3
  pub frame : nat_lt (frame_bits r.fix.item) 3 ≡ true → IsEntry (get_or counts (frame_bits r.fix.item) 0) r.frame
  pub target : IsEntry (get_or counts (target_bits r.fix.item) 0) r.target

-- A FIXUP that has no fault, in the state where the tables have these numbers of entries and the last data record has `size` bytes.
abbrev pub IsSound : List ℕ → ℕ → Subrecord → Type 0
IsSound counts size (Thread byte datum) = ⊥
IsSound counts size (Fixup locat r) = IsWithin size locat × IsDefined counts r

-- The next subrecord is sound and was passed.
pub record PassesNext (counts : List ℕ) (size : ℕ) (old new : Pending Subrecord) : Type 0 where
  pub next : At Subrecord
  pub gives : NextGives old (Ok (Some next)) new
  pub sound : IsSound counts size next.item

-- The size in bytes of a location by bit M and its type, as one number of five bits; 0 if it is refused.
abbrev pub rooms : List ℕ
rooms = 1 ∷ 2 ∷ 0 ∷ 0 ∷ 0 ∷ 2 ∷ 0 ∷ 0 ∷ 0 ∷ 4 ∷ 0 ∷ 0 ∷ 0 ∷ 4 ∷ 0 ∷ 0 ∷ 1 ∷ 2 ∷ 2 ∷ 4 ∷ 1 ∷ 2 ∷ 0 ∷ 0 ∷ 0 ∷ 4 ∷ 0 ∷ 6 ∷ 0 ∷ 4 ∷ 0 ∷ 0 ∷ []
