-- From which record of an input a record of the module with COMDATs comes.
use Rattle.std.specs.Prelude.{◌≡◌, ℕ, ◌-◌, List, [], ◌∷◌, ◌++◌, length, take, drop, nat_lt, Option, Some, option_map, if◌then◌else◌}
use Rattle.omf_frame.specs.Bytes.{with_before}
use Rattle.omf_frame.specs.Framing.{Raw}
use Rattle.omf_explicit.specs.Modules.{IsModule}
use Rattle.omf_explicit.specs.Origins.{origin_from}
use Rattle.omf_virtual.specs.Values.{Table}
use Rattle.omf_virtual.specs.Virtual.{front_count, lnames_in, replaced, table}

-- The number of records that replace each record of a module, and between both parts the number of the LNAMES of the COMDATs.
abbrev pub count : Table → List Raw → Raw → List ℕ
count t before r = length (replaced t before r) ∷ []

abbrev pub counts_by : Table → ℕ → List Raw → List ℕ
counts_by t n rs = with_before (count t) [] (take n rs) ++ length (lnames_in t) ∷ with_before (count t) (take n rs) (drop n rs)

-- The LNAMES come from the record before them.
abbrev pub before_names : ℕ → ℕ → ℕ
before_names front k = if nat_lt k front then k else k - 1

-- The number of the record that is replaced by the record with number n.
abbrev pub comdats_origin : List Raw → ℕ → Option ℕ
comdats_origin rs n = option_map (before_names (front_count rs)) (origin_from 0 (counts_by (table rs) (front_count rs) rs) n)

-- The record with a number, in the module with COMDATs, comes from this record of the input.
pub record ComesFrom (input : List ℕ) (number origin : ℕ) : Type 0 where
  pub records : List Raw
  pub rest : List ℕ
  pub read : IsModule input records rest
  pub is : comdats_origin records number ≡ Some origin
