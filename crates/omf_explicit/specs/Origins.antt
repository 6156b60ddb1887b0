-- From which record of an input a record of the changed module comes.
use Rattle.std.specs.Prelude.{◌≡◌, ℕ, ◌+◌, ◌-◌, ◌<◌, List, [], ◌∷◌, ◌++◌, length, nat_lt, Option, Some, None, if◌then◌else◌}
use Rattle.omf_frame.specs.Framing.{Raw, raw_bytes}
use Rattle.omf_explicit.specs.Explicit.{distinct, front_count, numbers}
use Rattle.omf_explicit.specs.Modules.{Begins, IsModule}

-- The number of the record that is replaced by the record with number n, if this many replace each record from number `at` on; none if they are fewer.
abbrev pub origin_from : ℕ → List ℕ → ℕ → Option ℕ
origin_from at [] n = None
origin_from at (c ∷ cs) n = if nat_lt n c then Some at else origin_from (at + 1) cs (n - c)

-- In a module with segments in place of frame numbers: the segments come from the record before them, and each other record from its own.
abbrev pub segments_origin : List Raw → ℕ → ℕ
segments_origin rs n =
    if nat_lt n (front_count rs) then n
    else if nat_lt (n - front_count rs) (length (distinct (numbers rs))) then front_count rs - 1
    else n - length (distinct (numbers rs))

-- The record with a number, in the module with segments, comes from this record of the input.
pub record ComesFrom (input : List ℕ) (number origin : ℕ) : Type 0 where
  pub records : List Raw
  pub rest : List ℕ
  pub read : IsModule input records rest
  pub is : origin ≡ segments_origin records number

-- An input begins with this many records, none of which is a MODEND, and the rest follows.
pub record IsAfter (input : List ℕ) (count : ℕ) (rest : List ℕ) : Type 0 where
  pub before : List Raw
  pub begins : Begins input before rest
  pub counted : length before ≡ count

-- An input has this record, with this number from 0, at this offset.
pub record HasRecord (input : List ℕ) (number start : ℕ) (r : Raw) : Type 0 where
  pub rest : List ℕ
  pub after : IsAfter input number (raw_bytes r ++ rest)
  pub short : length r.body < 65535
  pub started : start + length (raw_bytes r ++ rest) ≡ length input
