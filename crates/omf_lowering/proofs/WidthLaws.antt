-- The widths of an LIDATA's fields.
use Rattle.std.proofs.Common.{◌≡◌, refl}
use Rattle.omf_frame.specs.Types.{width_bytes}
use Rattle.omf_frame.specs.declared.kinds.Width.{Width}
use Rattle.omf_frame.specs.declared.kinds.Width.TheVariants.{Bits16, Bits32}
use Rattle.omf_records.specs.Inner.Seen.{odd_if}
use Rattle.omf_records.specs.Values.{width}

pub width_odd : (w : Width) → width (odd_if w 0xA2) ≡ width_bytes w
width_odd Bits16 = refl
width_odd Bits32 = refl
