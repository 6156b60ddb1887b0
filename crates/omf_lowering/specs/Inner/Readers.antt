-- The readings of the layouts of Layouts.
use Rattle.std.proofs.Common.{ℕ, ◌+◌, Bool, false, List, drop, Result, Ok, Err}
use Rattle.std.specs.Prelude.{nat_lt, ◌==◌, ◌&&◌, if◌then◌else◌}
use Rattle.omf_frame.specs.Fault.{Fault}
use Rattle.omf_frame.specs.declared.fault.Reason.TheVariants as reason
use Rattle.omf_records.specs.Layout.{checked, byte, called, index, many, number_of, rest, when}
use Rattle.omf_records.specs.Inner.Reads.{After, after, Reader, Whole, Shrinks}
use Rattle.omf_records.specs.Inner.FieldReaders.{index_reader, index_shrinks, byte_reader, number_reader, number_shrinks}
use Rattle.omf_records.specs.Inner.Readers.{◌>=>◌, ◌>=>|◌, then_shrinks, called_reader, checked_reader, placed_shrinks, index_at, number_at, give_reader, when_reader, called_whole, rest_whole}
use Rattle.omf_records.specs.Inner.Many.{each_whole}
use Rattle.omf_records.specs.Inner.EntryReaders.{one_reason}
use Rattle.omf_lowering.specs.Layouts.{named_external, cextdef, wrong_type, part_of, backpatch, bakpat, nbkpat, wrong_attributes, wrong_align, base, comdat, line_number, linnum, linsym}
use Rattle.omf_lowering.specs.Values.{allocation, selection}

abbrev pub external_reader : Reader named_external
external_reader = index_at >=> λ n. index_reader >=> λ t. give_reader _

pub external_shrinks : Shrinks external_reader.read
external_shrinks = then_shrinks _ _ index_at (λ n. index_reader >=> λ t. give_reader _) (placed_shrinks index index_reader index_shrinks)

abbrev pub cextdef_whole : Whole cextdef
cextdef_whole = each_whole named_external external_reader external_shrinks

abbrev pub type_reader : (wide : Bool) → Reader (called (checked byte (wrong_type wide)) part_of)
type_reader wide =
    called_reader (checked byte (wrong_type wide)) part_of (checked_reader byte (wrong_type wide) byte_reader (λ t. one_reason (nat_lt t (if wide then 3 else 2)) reason.LocationType))

abbrev pub backpatch_reader : (wide : Bool) → Reader (backpatch wide)
backpatch_reader wide = number_reader wide >=> λ o. number_reader wide >=> λ v. give_reader _

pub backpatch_shrinks : (wide : Bool) → Shrinks (backpatch_reader wide).read
backpatch_shrinks wide = then_shrinks _ _ (number_reader wide) (λ o. number_reader wide >=> λ v. give_reader _) (number_shrinks wide)

abbrev pub bakpat_whole : (wide : Bool) → Whole (bakpat wide)
bakpat_whole wide = index_at >=>| λ s. type_reader wide >=>| λ t. called_whole (many (backpatch wide)) _ (each_whole (backpatch wide) (backpatch_reader wide) (backpatch_shrinks wide))

abbrev pub nbkpat_whole : (wide : Bool) → Whole (nbkpat wide)
nbkpat_whole wide = type_reader wide >=>| λ t. index_at >=>| λ n. called_whole (many (backpatch wide)) _ (each_whole (backpatch wide) (backpatch_reader wide) (backpatch_shrinks wide))

abbrev pub attributes_reader : Reader (checked byte wrong_attributes)
attributes_reader = checked_reader byte wrong_attributes byte_reader (λ a. one_reason (nat_lt (selection a) 4 && nat_lt (allocation a) 5) reason.UnsupportedType)

abbrev pub align_reader : Reader (checked byte wrong_align)
align_reader = checked_reader byte wrong_align byte_reader (λ a. one_reason (nat_lt a 6) reason.Alignment)

abbrev pub frame_reader : (b : Bool) → Reader (when b (number_of false))
frame_reader b = when_reader b (number_of false) (number_reader false)

abbrev pub base_reader : Reader base
base_reader = index_at >=> λ g. index_at >=> λ s. frame_reader (s.item == 0) >=> λ f. give_reader _

abbrev pub explicit_reader : (b : Bool) → Reader (when b base)
explicit_reader b = when_reader b base base_reader

abbrev pub comdat_whole : (wide : Bool) → Whole (comdat wide)
comdat_whole wide =
    byte_reader >=>| λ f.
    attributes_reader >=>| λ a.
    align_reader >=>| λ l.
    number_at wide >=>| λ o.
    index_reader >=>| λ t.
    explicit_reader (allocation a == 0) >=>| λ b.
    index_at >=>| λ n.
    called_whole rest _ rest_whole

abbrev pub linsym_whole : Whole linsym
linsym_whole = byte_reader >=>| λ f. index_at >=>| λ n. called_whole rest _ rest_whole

abbrev pub line_reader : (wide : Bool) → Reader (line_number wide)
line_reader wide = number_reader false >=> λ n. number_reader wide >=> λ o. give_reader _

pub line_shrinks : (wide : Bool) → Shrinks (line_reader wide).read
line_shrinks wide = then_shrinks _ _ (number_reader false) (λ n. number_reader wide >=> λ o. give_reader _) (number_shrinks false)

abbrev pub linnum_whole : (wide : Bool) → Whole (linnum wide)
linnum_whole wide = index_reader >=>| λ g. index_reader >=>| λ s. called_whole (many (line_number wide)) _ (each_whole (line_number wide) (line_reader wide) (line_shrinks wide))

-- A value with the position in the contents after it, as a reading with the rest of the bytes. Contents begin at offset 3.
abbrev pub read_to : {A : Type 0} → List ℕ → Result (A × ℕ) Fault → Result (After A) Fault
read_to bytes (Ok x) = Ok (after x.0 (3 + x.1) (drop x.1 bytes))
read_to bytes (Err e) = Err e
