-- The length of blocks, computed without their trees. Lengths saturate at 2^64 - 1, which is above every limit.
use Rattle.std.specs.Prelude.{ℕ, ◌+◌, ◌-◌, ◌*◌, ◌^◌, List, length, drop, min, Result, Ok, Err}
use Rattle.omf_frame.specs.Fault.{Fault}
use Rattle.omf_records.specs.Inner.FieldReaders.{name_read}
use Rattle.omf_records.specs.Inner.Reads.{After, after, Reading, and_then}
use Rattle.omf_image.specs.Inner.Folding.{Folded, fold_times, fold_contents, fold_block, fold_all}

abbrev pub capped : ℕ → ℕ
capped n = min n (2 ^ 64 - 1)

-- a result with the position after it, as a reading with the rest of the bytes
abbrev pub read_to : {A : Type 0} → List ℕ → Result (A × ℕ) Fault → Result (After A) Fault
read_to bytes (Ok x) = Ok (after x.0 x.1 (drop x.1 bytes))
read_to bytes (Err e) = Err e

-- the length of a block's data
abbrev pub len_data : Reading ℕ
len_data at bytes = and_then (name_read at bytes) (λ a. Ok (after (length a.value) a.within a.rest))

-- the readings fold to lengths
abbrev pub lengths : Folded ℕ
lengths = record { none = 0; join = λ sum n. capped (sum + n); text = len_data; again = λ count n. capped (count * n) }

abbrev pub len_times : Reading ℕ → ℕ → ℕ → Reading ℕ
len_times = fold_times lengths

abbrev pub len_contents : Reading ℕ → ℕ → Reading ℕ
len_contents = fold_contents lengths

abbrev pub len_block : ℕ → ℕ → Reading ℕ
len_block = fold_block lengths

abbrev pub len_all : Reading ℕ → ℕ → ℕ → ℕ → List ℕ → Result ℕ Fault
len_all = fold_all lengths
