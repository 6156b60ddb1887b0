-- The readings of items. Each is built as its layout in Entries.
use Rattle.std.proofs.Common.{ℕ, ◌≤◌, Bool, true, false, cond, List, [], ◌∷◌, ◌++◌, arith, inl, inr}
use Rattle.std.specs.Prelude.{◌==◌, ◌||◌, not, nat_lt}
use Rattle.omf_frame.specs.Fault.{reason_number}
use Rattle.omf_frame.specs.declared.fault.Reason.{Reason}
use Rattle.omf_frame.specs.declared.fault.Reason.TheVariants as reason
use Rattle.omf_records.specs.Inner.Names.{fixup, thread, near_size, wrong_component, wrong_data_type, wrong_head, is_location, has_frame_datum, has_target_datum, has_no_displacement}
use Rattle.omf_records.specs.Values.{Near, Thread, Fixup, thread_is_frame, thread_method, location_type, frame_by_thread, frame_bits, target_by_thread, target_bits}
use Rattle.omf_records.specs.Layout.{checked, byte, head, with_place, index, number_of, IsIn, when, choose, communal_length}
use Rattle.omf_records.specs.Inner.Reads.{Reader, Shrinks}
use Rattle.omf_records.specs.Inner.FieldReaders.{name_reader, name_shrinks, index_reader, byte_reader, byte_shrinks, number_reader, head_reader, head_shrinks, communal_length_reader}
use Rattle.omf_records.specs.Inner.Readers.{◌>=>◌, then_shrinks, checked_reader, checked_shrinks, choose_reader, when_reader, placed_reader, index_at, called_reader, give_reader, InOrder}
use Rattle.omf_records.specs.Entries.{unless, member, external, public_item, far_size, communal_size, communal, is_frame_method, wrong_methods, reference, wrong_thread, wrong_location, subrecord}

-- ---- reasons at one offset are in the order of their numbers

pub one_reason : (test : Bool) (r : Reason) → InOrder (unless test r)
one_reason true r = tt
one_reason false r = λ s i. absurd i

pub one_of : (b : Bool) (rs ss : List Reason) → InOrder rs → InOrder ss → InOrder (cond b rs ss)
one_of true rs ss h k = h
one_of false rs ss h k = k

two_reasons : (a b : Bool) → InOrder (unless a reason.FrameMethod ++ unless b reason.TargetMethod)
two_reasons true b = one_reason b reason.TargetMethod
two_reasons false true = λ s i. absurd i
two_reasons false false = both
  where
    both : (s : Reason) → IsIn s (reason.TargetMethod ∷ []) → reason_number reason.FrameMethod ≤ reason_number s
    both s (inl e) = rw e (omega arith)
    both s (inr e) = absurd e

pub methods_in_order : (fix : ℕ) → InOrder (wrong_methods fix)
methods_in_order fix = two_reasons (frame_by_thread fix || is_frame_method (frame_bits fix)) (target_by_thread fix || nat_lt (target_bits fix) 3)

pub head_in_order : (h : ℕ) → InOrder (wrong_head h)
head_in_order h = one_of (nat_lt h 128) (wrong_thread h) (wrong_location h)
    (one_of (thread_is_frame h) _ _ (one_reason _ reason.FrameMethod) (one_reason _ reason.TargetMethod))
    (one_of (is_location (location_type h)) _ (reason.LocationType ∷ []) (one_reason _ reason.SelfRelative) (λ s i. absurd i))

-- ---- GRPDEF, EXTDEF, PUBDEF, COMDEF

abbrev pub component_reader : Reader (checked byte wrong_component)
component_reader = checked_reader byte wrong_component byte_reader (λ c. one_reason (c == 0xFF) reason.GroupComponent)

abbrev pub member_reader : Reader member
member_reader = component_reader >=> λ c. index_at

pub member_shrinks : Shrinks member_reader.read
member_shrinks = then_shrinks _ _ component_reader (λ c. index_at) (checked_shrinks byte wrong_component byte_reader (λ c. one_reason (c == 0xFF) reason.GroupComponent) byte_shrinks)

abbrev pub external_reader : Reader external
external_reader = name_reader >=> λ n. index_reader >=> λ t. give_reader _

pub external_shrinks : Shrinks external_reader.read
external_shrinks = then_shrinks _ _ name_reader (λ n. index_reader >=> λ t. give_reader _) name_shrinks

abbrev pub public_reader : (wide : Bool) → Reader (public_item wide)
public_reader wide = name_reader >=> λ n. number_reader wide >=> λ o. index_reader >=> λ t. give_reader _

pub public_shrinks : (wide : Bool) → Shrinks (public_reader wide).read
public_shrinks wide = then_shrinks _ _ name_reader (λ n. number_reader wide >=> λ o. index_reader >=> λ t. give_reader _) name_shrinks

abbrev pub data_type_reader : Reader (checked byte wrong_data_type)
data_type_reader = checked_reader byte wrong_data_type byte_reader (λ t. one_reason _ reason.CommunalType)

abbrev pub near_reader : Reader near_size
near_reader = called_reader communal_length Near communal_length_reader

abbrev pub far_reader : Reader far_size
far_reader = communal_length_reader >=> λ count. communal_length_reader >=> λ size. give_reader _

abbrev pub size_reader : Reader communal_size
size_reader = data_type_reader >=> λ t. choose_reader near_size far_size near_reader far_reader (t == 0x62)

abbrev pub communal_reader : Reader communal
communal_reader = name_reader >=> λ n. index_reader >=> λ t. size_reader >=> λ s. give_reader _

pub communal_shrinks : Shrinks communal_reader.read
communal_shrinks = then_shrinks _ _ name_reader (λ n. index_reader >=> λ t. size_reader >=> λ s. give_reader _) name_shrinks

-- ---- subrecords of a FIXUPP

abbrev pub fix_reader : Reader (with_place (checked byte wrong_methods))
fix_reader = placed_reader _ (checked_reader byte wrong_methods byte_reader methods_in_order)

abbrev pub datum_reader : (b : Bool) → Reader (when b (with_place index))
datum_reader b = when_reader b (with_place index) index_at

abbrev pub displacement_reader : (wide b : Bool) → Reader (when b (number_of wide))
displacement_reader wide b = when_reader b (number_of wide) (number_reader wide)

abbrev pub reference_reader : (wide : Bool) → Reader (reference wide)
reference_reader wide =
    fix_reader >=> λ fix.
    datum_reader (has_frame_datum fix.item) >=> λ frame.
    datum_reader (has_target_datum fix.item) >=> λ target.
    displacement_reader wide (not (has_no_displacement fix.item)) >=> λ displacement.
    give_reader _

abbrev pub thread_reader : (b : ℕ) → Reader (thread b)
thread_reader b = called_reader (when (nat_lt (thread_method b) 3) (with_place index)) (Thread b) (datum_reader (nat_lt (thread_method b) 3))

abbrev pub fixup_reader : (wide : Bool) (locat : ℕ) → Reader (fixup wide locat)
fixup_reader wide locat = called_reader (reference wide) (Fixup locat) (reference_reader wide)

abbrev pub subhead_reader : Reader (checked head wrong_head)
subhead_reader = checked_reader head wrong_head head_reader head_in_order

abbrev pub part_reader : (wide : Bool) (h : ℕ) → Reader (choose (nat_lt h 128) (thread h) (fixup wide h))
part_reader wide h = choose_reader (thread h) (fixup wide h) (thread_reader h) (fixup_reader wide h) (nat_lt h 128)

abbrev pub subrecord_reader : (wide : Bool) → Reader (subrecord wide)
subrecord_reader wide = subhead_reader >=> part_reader wide

pub subrecord_shrinks : (wide : Bool) → Shrinks (subrecord_reader wide).read
subrecord_shrinks wide = then_shrinks _ _ subhead_reader (part_reader wide) (checked_shrinks head wrong_head head_reader head_in_order head_shrinks)
