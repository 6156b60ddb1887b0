-- The readings of the layouts of Layouts.
use Rattle.std.proofs.Common.{ℕ, ◌+◌, Bool, List, drop, Result, Ok, Err}
use Rattle.std.specs.Prelude.{◌==◌, not, nat_lt}
use Rattle.omf_frame.specs.Bytes.{has_bit}
use Rattle.omf_frame.specs.Fault.{Fault}
use Rattle.omf_records.specs.Values.{frame_bits, target_bits, thread_method}
use Rattle.omf_records.specs.Layout.{index, le, number_of, called, choose, when}
use Rattle.omf_records.specs.Inner.Reads.{After, after, Reader, Whole, Shrinks}
use Rattle.omf_records.specs.Inner.FieldReaders.{byte_reader, head_reader, head_shrinks, index_reader, le_reader, number_reader}
use Rattle.omf_records.specs.Inner.Readers.{◌>=>◌, ◌>=>|◌, then_shrinks, called_reader, choose_reader, ends_whole, give_reader, when_reader}
use Rattle.omf_records.specs.Inner.Many.{each_whole}
use Rattle.omf_explicit.specs.Layouts.{datum, fixupp, frame_follows, part, reference, start, target_follows}
use Rattle.omf_explicit.specs.declared.part.Datum.TheVariants as datums
use Rattle.omf_explicit.specs.declared.part.Part.TheVariants as parts

abbrev pub datum_reader : (method : ℕ) → Reader (datum method)
datum_reader method = choose_reader (called (le 2) datums.Number) (called index datums.Index) (called_reader (le 2) datums.Number (le_reader 2)) (called_reader index datums.Index index_reader) (method == 3)

abbrev pub datum_if_reader : (b : Bool) (method : ℕ) → Reader (when b (datum method))
datum_if_reader b method = when_reader b (datum method) (datum_reader method)

abbrev pub displacement_reader : (wide b : Bool) → Reader (when b (number_of wide))
displacement_reader wide b = when_reader b (number_of wide) (number_reader wide)

abbrev pub reference_reader : (wide : Bool) → Reader (reference wide)
reference_reader wide =
    byte_reader >=> λ fix.
    datum_if_reader (frame_follows fix) (frame_bits fix) >=> λ frame.
    datum_if_reader (target_follows fix) (target_bits fix) >=> λ target.
    displacement_reader wide (not (has_bit fix 2)) >=> λ displacement.
    give_reader _

abbrev pub thread_reader : (h : ℕ) → Reader (called (when (nat_lt (thread_method h) 4) (datum (thread_method h))) (parts.Thread h))
thread_reader h = called_reader (when (nat_lt (thread_method h) 4) (datum (thread_method h))) (parts.Thread h) (datum_if_reader (nat_lt (thread_method h) 4) (thread_method h))

abbrev pub fixup_reader : (wide : Bool) (h : ℕ) → Reader (called (reference wide) (parts.Fixup h))
fixup_reader wide h = called_reader (reference wide) (parts.Fixup h) (reference_reader wide)

abbrev pub either_reader : (wide : Bool) (h : ℕ) → Reader (choose (nat_lt h 128) (called (when (nat_lt (thread_method h) 4) (datum (thread_method h))) (parts.Thread h)) (called (reference wide) (parts.Fixup h)))
either_reader wide h = choose_reader _ _ (thread_reader h) (fixup_reader wide h) (nat_lt h 128)

abbrev pub part_reader : (wide : Bool) → Reader (part wide)
part_reader wide = head_reader >=> either_reader wide

pub part_shrinks : (wide : Bool) → Shrinks (part_reader wide).read
part_shrinks wide = then_shrinks _ _ head_reader (either_reader wide) head_shrinks

abbrev pub fixupp_whole : (wide : Bool) → Whole (fixupp wide)
fixupp_whole wide = each_whole (part wide) (part_reader wide) (part_shrinks wide)

abbrev pub reference_if_reader : (wide b : Bool) → Reader (when b (reference wide))
reference_if_reader wide b = when_reader b (reference wide) (reference_reader wide)

abbrev pub start_whole : (wide : Bool) → Whole (start wide)
start_whole wide = byte_reader >=>| λ first. reference_if_reader wide (has_bit first 6) >=>| λ address. ends_whole _

-- A value with the position in the contents after it, as a reading with the rest of the bytes. Contents begin at offset 3.
abbrev pub read_to : {A : Type 0} → List ℕ → Result (A × ℕ) Fault → Result (After A) Fault
read_to bytes (Ok x) = Ok (after x.0 (3 + x.1) (drop x.1 bytes))
read_to bytes (Err e) = Err e
