-- The types of records with references, and the widths of their numbers.
use Rattle.std.specs.Prelude.{ℕ, ◌*◌}
use Rattle.omf_frame.specs.declared.kinds.Width.{Width}
use Rattle.omf_frame.specs.Types.{width_bytes}
use Rattle.omf_records.specs.Inner.Seen.{odd_if}

-- The type of a FIXUPP and of a MODEND with fields of this width.
abbrev pub fixupp_type : Width → ℕ
fixupp_type width = odd_if width 0x9C

abbrev pub modend_type : Width → ℕ
modend_type width = odd_if width 0x8A

-- The bits of an offset or a displacement.
abbrev pub number_bits : Width → ℕ
number_bits width = 8 * width_bytes width
