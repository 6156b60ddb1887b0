-- FIXUPs that use no thread and are copied from their bytes.
use Rattle.std.specs.Prelude.{◌≡◌, ℕ, List, ◌∷◌, ◌++◌, nat_le, Bool, true, false, not, ◌&&◌, ◌==◌, Option, Some, None, Result, Ok}
use Rattle.omf_frame.specs.Fault.{Fault}
use Rattle.omf_records.specs.declared.here.Here.{Here}
use Rattle.omf_records.specs.Inner.Reads.{After, after}
use Rattle.omf_records.specs.Shortest.{subrecord_bytes}
use Rattle.omf_records.specs.Inner.Unread.{Pending, NextGives}
use Rattle.omf_records.specs.Values.{At, Reference, Subrecord, Thread, Fixup, frame_by_thread, target_by_thread}

-- The bytes begin a FIXUP that uses no thread.
abbrev pub begins_direct : List ℕ → Bool
begins_direct (h ∷ l ∷ fix ∷ rest) = nat_le 128 h && (not (frame_by_thread fix) && not (target_by_thread fix))
begins_direct _ = false

-- A displacement of 0.
abbrev pub is_zero : Option ℕ → Bool
is_zero None = false
is_zero (Some d) = d == 0

abbrev pub IsNonzero : Option ℕ → Type 0
IsNonzero d = is_zero d ≡ false

-- A reference that uses no thread and has no displacement of 0.
abbrev pub is_direct : Reference → Bool
is_direct r = not (frame_by_thread r.fix.item) && (not (target_by_thread r.fix.item) && not (is_zero r.displacement))

abbrev pub IsDirect : Subrecord → Type 0
IsDirect (Thread byte datum) = ⊥
IsDirect (Fixup locat r) = is_direct r ≡ true

-- The value read satisfies P, f of it was appended, and reading stopped here, in a record of the same width.
pub record Copies {A : Type 0} (P : A → Type 0) (f : A → List ℕ) (wide : Bool) (read : Result (After A) Fault) (out then : List ℕ) (here : Here) : Type 0 where
  pub value : A
  pub is : read ≡ Ok (after value here.within here.bytes.now)
  pub same : here.wide ≡ wide
  pub holds : P value
  pub put : then ≡ out ++ f value

-- The next subrecord is direct and was passed; its shortest bytes were appended.
pub record PutsNext (kind : ℕ) (old new : Pending Subrecord) (out then : List ℕ) : Type 0 where
  pub next : At Subrecord
  pub gives : NextGives old (Ok (Some next)) new
  pub direct : IsDirect next.item
  pub put : then ≡ out ++ subrecord_bytes kind next.item
