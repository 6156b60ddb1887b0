-- The addresses that a form has.
use Rattle.std.proofs.Common.{◌^◌, ◌≤◌, arith}
use Rattle.omf_output.specs.Rom.IntelHex.{limit}
use Rattle.omf_output.specs.declared.rom.hex.HexBase.{HexBase}
use Rattle.omf_output.specs.declared.rom.hex.HexBase.TheVariants.{Linear, Segment}
use Rattle.omf_output.specs.Rom.Motorola.{limit as s_limit}
use Rattle.omf_output.specs.declared.rom.srec.SAddress.{SAddress}
use Rattle.omf_output.specs.declared.rom.srec.SAddress.TheVariants.{Bits16, Bits24, Bits32}

-- none has more than 4 GB
pub limit_low : (base : HexBase) → limit base ≤ 2 ^ 32
limit_low Linear = omega arith
limit_low Segment = omega arith

pub s_limit_low : (width : SAddress) → s_limit width ≤ 2 ^ 32
s_limit_low Bits16 = omega arith
s_limit_low Bits24 = omega arith
s_limit_low Bits32 = omega arith
