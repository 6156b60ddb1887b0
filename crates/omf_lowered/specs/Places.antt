-- The place of a fault in the input, where a step or the lowering has changed the module.
use Rattle.std.specs.Prelude.{◌≡◌, ℕ, ◌==◌, ◌&&◌, Bool, List, All, Option, Some, None, true, false, bytes_eq, flat_map, length, slice_get, take, if◌then◌else◌}
use Rattle.omf_frame.specs.Framing.{Raw, raw_bytes}
use Rattle.omf_frame.specs.declared.fault.Place.{Place}
use Rattle.omf_explicit.specs.Modules.{IsModule}
use Rattle.omf_explicit.specs.Origins.{HasRecord}

-- Two records are the same.
abbrev pub is_same : Raw → Raw → Bool
is_same r x = (r.kind == x.kind) && ((r.checksum == x.checksum) && bytes_eq r.body x.body)

-- The place in an input for a place in the changed module: the record that the other one comes from. It has the same byte in a record that is the same; else it is the whole
-- record, byte 0.
pub record IsPlaceOf (input own : List ℕ) (there at : Place) : Type 0 where
  pub from : Raw
  pub to : Raw
  pub start : ℕ
  pub here : HasRecord input at.number at.start from
  pub changed : HasRecord own there.number start to
  pub within : at.within ≡ (if is_same from to then there.within else 0)

-- ---- the same record

-- No record is the same as another one.
abbrev pub AreUnlike : List Raw → Raw → Type 0
AreUnlike rs x = All (λ r. is_same r x ≡ false) rs

-- The first of the records that is the same as another one: its number, from 0, and the offset at which it begins.
pub record IsFirstSame (rs : List Raw) (x : Raw) (number start : ℕ) : Type 0 where
  pub found : Raw
  pub is : slice_get rs number ≡ Some found
  pub same : is_same found x ≡ true
  pub unlike : AreUnlike (take number rs) x
  pub offset : start ≡ length (flat_map raw_bytes (take number rs))

-- The place in an input's module for a place in its lowering: the first record that is the same as the one there, at the same byte.
pub record IsSamePlace (input own : List ℕ) (there at : Place) : Type 0 where
  pub records : List Raw
  pub rest : List ℕ
  pub to : Raw
  pub start : ℕ
  pub read : IsModule input records rest
  pub changed : HasRecord own there.number start to
  pub first : IsFirstSame records to at.number at.start
  pub within : at.within ≡ there.within

-- No record of an input's module is the same as the one at a place in its lowering: the lowering wrote it.
pub record IsWritten (input own : List ℕ) (there : Place) : Type 0 where
  pub records : List Raw
  pub rest : List ℕ
  pub to : Raw
  pub start : ℕ
  pub read : IsModule input records rest
  pub changed : HasRecord own there.number start to
  pub unlike : AreUnlike records to

-- The place in an input's module for a place in its lowering, or that there is none.
abbrev pub IsPlaceIn : List ℕ → List ℕ → Place → Option Place → Type 0
IsPlaceIn input own there (Some at) = IsSamePlace input own there at
IsPlaceIn input own there None = IsWritten input own there
