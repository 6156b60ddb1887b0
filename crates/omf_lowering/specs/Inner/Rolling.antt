-- What the code has of an LIDATA with fixups, and the results of its functions.
use Rattle.std.specs.Prelude.{◌≡◌, ◌⊎◌, ◌≤◌, ⊤, IsOk, ℕ, List, length, flat_map, Result, Ok, Err}
use Rattle.omf_frame.specs.Fault.{Fault}
use Rattle.omf_frame.specs.Framing.{Raw, raw_bytes}
use Rattle.omf_frame.specs.Types.{width_bytes}
use Rattle.omf_frame.specs.declared.fault.Place.{Place}
use Rattle.omf_image.specs.Inner.Expanding.{expanded_length}
use Rattle.omf_image.specs.Limits.{profile_limits}
use Rattle.omf_lowering.specs.Lowering.{HasFixupFault, IsLoweringFault, IsOrigin}
use Rattle.omf_lowering.specs.Unrolled.{Before, Blocks, after_records}
use Rattle.omf_lowering.specs.declared.fault.LoweringFault.{LoweringFault}
use Rattle.omf_lowering.specs.declared.fault.LoweringFault.TheVariants as lowering
use Rattle.omf_lowering.specs.declared.fault.Stop.{Stop}
use Rattle.omf_lowering.specs.declared.fault.Stop.TheVariants as stop
use Rattle.omf_lowering.specs.declared.iterated.Iterated.{Iterated}

-- The blocks of an LIDATA.
abbrev pub blocks_seen : Iterated → Blocks
blocks_seen i = record { width = width_bytes i.blocks.width; item = record { segment = i.segment; offset = i.offset; bytes = i.blocks.bytes.now } }

-- They are within the limits.
pub record AreIn (i : Iterated) : Type 0 where
  pub short : length i.blocks.bytes.now ≤ 65534
  pub fits : IsOk (expanded_length (width_bytes i.blocks.width) profile_limits i.blocks.bytes.now)

-- A function did this step, unless memory ran out.
abbrev pub IsStep : {A : Type 0} → Result A Stop → Before → Result Before Fault → Type 0
IsStep (Ok x) new step = step ≡ Ok new
IsStep (Err stop.Memory) new step = ⊤
IsStep (Err (stop.At e)) new step = step ≡ Err e

-- Some records have no fault of unrolling, and these are the bytes of the unrolled ones.
pub record IsBytesOf (rs : List Raw) (out : List ℕ) : Type 0 where
  pub after : Before
  pub unrolled : after_records rs ≡ Ok after
  pub bytes : out ≡ flat_map raw_bytes after.records

-- A record with this number among some stopped the work, for its fault, or memory ran out.
abbrev pub IsHalt : List Raw → ℕ → Stop → Type 0
IsHalt rs number stop.Memory = ⊤
IsHalt rs number (stop.At e) = HasFixupFault rs number e

-- A fault of a record of the lowered module with a number, at the record of the input; or the input has one of its own.
abbrev pub IsFaultOf : List ℕ → ℕ → Fault → LoweringFault → Type 0
IsFaultOf input number e f = IsLoweringFault input f ⊎ ((place : Place) × (f ≡ lowering.Refused e.reason place) × (place.within ≡ e.within) × IsOrigin input number place)

-- The fault for which the work on a record of the lowered module with a number stopped.
abbrev pub IsHaltOf : List ℕ → ℕ → Stop → LoweringFault → Type 0
IsHaltOf input number stop.Memory f = IsLoweringFault input f
IsHaltOf input number (stop.At e) f = IsFaultOf input number e f
