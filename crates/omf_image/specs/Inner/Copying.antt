-- The bytes of blocks, computed without their trees; and the facts kept while they are written.
use Rattle.std.specs.Prelude.{◌≡◌, ◌≤◌, Bool, true, false, ℕ, ◌+◌, ◌-◌, List, [], ◌++◌, length, drop, Result, Ok}
use Rattle.omf_frame.specs.Fault.{Fault}
use Rattle.omf_records.specs.Inner.FieldReaders.{name_read}
use Rattle.omf_records.specs.Inner.Reads.{After, after, Reading}
use Rattle.omf_image.specs.Inner.Folding.{Folded, fold_times, fold_contents, fold_block, fold_all}
use Rattle.omf_image.specs.Blocks.{repeated}
use Rattle.omf_image.specs.Inner.Lengths.{capped}

-- the readings fold to bytes
abbrev pub copies : Folded (List ℕ)
copies = record { none = []; join = λ front bytes. front ++ bytes; text = name_read; again = repeated }

abbrev pub bytes_times : Reading (List ℕ) → ℕ → List ℕ → Reading (List ℕ)
bytes_times = fold_times copies

abbrev pub bytes_contents : Reading (List ℕ) → ℕ → Reading (List ℕ)
bytes_contents = fold_contents copies

abbrev pub bytes_block : ℕ → ℕ → Reading (List ℕ)
bytes_block = fold_block copies

abbrev pub bytes_all : Reading (List ℕ) → ℕ → List ℕ → ℕ → List ℕ → Result (List ℕ) Fault
bytes_all = fold_all copies

-- The bytes to write of those read: all if wanted, else none.
abbrev pub wanted : Bool → List ℕ → List ℕ
wanted true bytes = bytes
wanted false bytes = []

-- n bytes were read and `written` was appended to the output; the count grew by both, saturating at 2^64 - 1.
pub record IsMoved (out : List ℕ) (moved : ℕ) (new_out : List ℕ) (new_moved : ℕ) (n : ℕ) (written : List ℕ) : Type 0 where
  pub appended : new_out ≡ out ++ written
  pub most : new_moved ≤ moved + (n + length written)
  pub least : capped (moved + (n + length written)) ≤ new_moved

-- Reading at `pos` gives `value` and ends at `next`; nothing was written.
pub record IsRead {A : Type 0} (bytes : List ℕ) (pos : ℕ) (read : Result (After A) Fault) (value : A) (next : ℕ) (out : List ℕ) (moved : ℕ) (new_out : List ℕ) (new_moved : ℕ) : Type 0 where
  pub is : Ok (after value next (drop next bytes)) ≡ read
  pub from : pos ≤ next
  pub to : next ≤ length bytes
  pub moves : IsMoved out moved new_out new_moved (next - pos) []

-- Reading at `pos` ends at `next`; the bytes it gives were written if wanted.
pub record IsPassed (bytes : List ℕ) (pos : ℕ) (read : Result (After (List ℕ)) Fault) (want : Bool) (out : List ℕ) (moved : ℕ) (new_out : List ℕ) (new_moved : ℕ) (next : ℕ) : Type 0 where
  pub value : List ℕ
  pub is : Ok (after value next (drop next bytes)) ≡ read
  pub from : pos ≤ next
  pub to : next ≤ length bytes
  pub moves : IsMoved out moved new_out new_moved (next - pos) (wanted want value)
