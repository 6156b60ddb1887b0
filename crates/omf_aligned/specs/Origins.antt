-- From which record of an input a record of the module with A = 4 comes.
use Rattle.std.specs.Prelude.{◌≡◌, ℕ, ◌+◌, List, [], ◌∷◌, length, Option, Some}
use Rattle.omf_frame.specs.Bytes.{with_before}
use Rattle.omf_frame.specs.Framing.{Raw}
use Rattle.omf_explicit.specs.Explicit.{segment_count}
use Rattle.omf_explicit.specs.Modules.{IsModule}
use Rattle.omf_explicit.specs.Origins.{origin_from}
use Rattle.omf_aligned.specs.Aligned.{replacement}

-- The number of records that replace each record of a module.
abbrev pub counts : List Raw → List ℕ
counts rs = with_before (λ before r. length (replacement (segment_count before + 1) r) ∷ []) [] rs

-- The number of the record that is replaced by the record with number n.
abbrev pub pages_origin : List Raw → ℕ → Option ℕ
pages_origin rs n = origin_from 0 (counts rs) n

-- The record with a number, in the module with A = 4, comes from this record of the input.
pub record ComesFrom (input : List ℕ) (number origin : ℕ) : Type 0 where
  pub records : List Raw
  pub rest : List ℕ
  pub read : IsModule input records rest
  pub is : pages_origin records number ≡ Some origin
