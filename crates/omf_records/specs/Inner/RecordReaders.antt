-- The readings of contents. Each is built as its layout in Records.
use Rattle.std.proofs.Common.{ℕ, Bool}
use Rattle.std.specs.Prelude.{◌==◌, ◌||◌, not, nat_lt, Option, Some, None}
use Rattle.omf_frame.specs.Types.{type_of}
use Rattle.omf_frame.specs.declared.kinds.RecordType.{RecordType}
use Rattle.omf_frame.specs.declared.kinds.RecordType.TheVariants.{Theadr, Lheadr, Coment, Lnames, Llnames, Segdef, Grpdef, Extdef, Lextdef, Pubdef, Lpubdef, Comdef, Lcomdef, Ledata, Lidata, Fixupp, Modend, Typdef, Linnum, Linsym, Alias, Vernum, Bakpat, Cextdef, Comdat, Nbkpat, Vendext, Library}
use Rattle.omf_frame.specs.declared.fault.Reason.TheVariants as reason
use Rattle.omf_records.specs.Inner.Names.{communals, externs, fixups, names, wrong_alignment, wrong_size, has_start}
use Rattle.omf_records.specs.Values.{Comment, Names, Group, Externs, Publics, Communals, Plain, Iterated, Fixups, Carried, is_wide, alignment, is_big}
use Rattle.omf_records.specs.Layout.{checked, byte, le, number_of, many, name, when, rest, called}
use Rattle.omf_records.specs.Inner.Reads.{Reader, Whole}
use Rattle.omf_records.specs.Inner.FieldReaders.{name_reader, name_shrinks, byte_reader, index_reader, le_reader, number_reader}
use Rattle.omf_records.specs.Inner.Readers.{◌>=>◌, ◌>=>|◌, checked_reader, when_reader, index_at, number_at, give_reader, ends_whole, rest_whole, called_whole}
use Rattle.omf_records.specs.Inner.Many.{each_whole}
use Rattle.omf_records.specs.Entries.{member, external, public_item, communal, reference, subrecord}
use Rattle.omf_records.specs.Inner.EntryReaders.{one_reason, member_reader, member_shrinks, external_reader, external_shrinks, public_reader, public_shrinks, communal_reader, communal_shrinks, reference_reader, subrecord_reader, subrecord_shrinks}
use Rattle.omf_records.specs.Records.{header, comment, absolute, segment, group, publics, data_item, mod_end, carried, layout_of, layout_if, contents}

abbrev pub header_whole : Whole header
header_whole = name_reader >=>| λ n. ends_whole _

abbrev pub comment_whole : Whole comment
comment_whole = byte_reader >=>| λ t. byte_reader >=>| λ c. called_whole rest (Comment t c) rest_whole

abbrev pub names_whole : Whole names
names_whole = called_whole (many name) Names (each_whole name name_reader name_shrinks)

abbrev pub attribute_reader : Reader (checked byte wrong_alignment)
attribute_reader = checked_reader byte wrong_alignment byte_reader (λ a. one_reason (nat_lt (alignment a) 6) reason.Alignment)

abbrev pub absolute_reader : (a : ℕ) → Reader (when (alignment a == 0) absolute)
absolute_reader a = when_reader (alignment a == 0) absolute (le_reader 2 >=> λ f. byte_reader >=> λ o. give_reader _)

abbrev pub size_reader : (wide : Bool) (a : ℕ) → Reader (checked (number_of wide) (wrong_size a))
size_reader wide a = checked_reader (number_of wide) (wrong_size a) (number_reader wide) (λ n. one_reason (not (is_big a) || (n == 0)) reason.BigLength)

abbrev pub segment_whole : (wide : Bool) → Whole (segment wide)
segment_whole wide =
    attribute_reader >=>| λ a.
    absolute_reader a >=>| λ f.
    size_reader wide a >=>| λ l.
    index_at >=>| λ n.
    index_at >=>| λ c.
    index_reader >=>| λ o.
    ends_whole _

abbrev pub group_whole : Whole group
group_whole = index_at >=>| λ n. called_whole (many member) (λ ms. Group (record { name = n; members = ms })) (each_whole member member_reader member_shrinks)

abbrev pub externs_whole : Whole externs
externs_whole = called_whole (many external) Externs (each_whole external external_reader external_shrinks)

abbrev pub base_reader : (b : Bool) → Reader (when b (le 2))
base_reader b = when_reader b (le 2) (le_reader 2)

abbrev pub publics_whole : (wide : Bool) → Whole (publics wide)
publics_whole wide =
    index_at >=>| λ g.
    index_at >=>| λ s.
    base_reader (s.item == 0) >=>| λ f.
    called_whole (many (public_item wide)) (λ ps. Publics (record { group = g; segment = s; frame = f; items = ps })) (each_whole (public_item wide) (public_reader wide) (public_shrinks wide))

abbrev pub communals_whole : Whole communals
communals_whole = called_whole (many communal) Communals (each_whole communal communal_reader communal_shrinks)

abbrev pub data_whole : (wide : Bool) → Whole (data_item wide)
data_whole wide = index_at >=>| λ s. number_at wide >=>| λ o. called_whole rest (λ bytes. record { segment = s; offset = o; bytes = bytes }) rest_whole

abbrev pub plain_whole : (wide : Bool) → Whole (called (data_item wide) Plain)
plain_whole wide = called_whole (data_item wide) Plain (data_whole wide)

abbrev pub iterated_whole : (wide : Bool) → Whole (called (data_item wide) Iterated)
iterated_whole wide = called_whole (data_item wide) Iterated (data_whole wide)

abbrev pub fixups_whole : (wide : Bool) → Whole (fixups wide)
fixups_whole wide = called_whole (many (subrecord wide)) Fixups (each_whole (subrecord wide) (subrecord_reader wide) (subrecord_shrinks wide))

abbrev pub start_reader : (wide : Bool) (b : ℕ) → Reader (when (has_start b) (reference wide))
start_reader wide b = when_reader (has_start b) (reference wide) (reference_reader wide)

abbrev pub mod_end_whole : (wide : Bool) → Whole (mod_end wide)
mod_end_whole wide = byte_reader >=>| λ b. start_reader wide b >=>| λ s. ends_whole _

abbrev pub carried_whole : Whole carried
carried_whole = called_whole rest Carried rest_whole

abbrev pub whole_of : (t : RecordType) (wide : Bool) → Whole (layout_of t wide)
whole_of Theadr wide = header_whole
whole_of Lheadr wide = header_whole
whole_of Coment wide = comment_whole
whole_of Lnames wide = names_whole
whole_of Llnames wide = names_whole
whole_of Segdef wide = segment_whole wide
whole_of Grpdef wide = group_whole
whole_of Extdef wide = externs_whole
whole_of Lextdef wide = externs_whole
whole_of Pubdef wide = publics_whole wide
whole_of Lpubdef wide = publics_whole wide
whole_of Comdef wide = communals_whole
whole_of Lcomdef wide = communals_whole
whole_of Ledata wide = plain_whole wide
whole_of Lidata wide = iterated_whole wide
whole_of Fixupp wide = fixups_whole wide
whole_of Modend wide = mod_end_whole wide
whole_of Typdef wide = carried_whole
whole_of Linnum wide = carried_whole
whole_of Linsym wide = carried_whole
whole_of Alias wide = carried_whole
whole_of Vernum wide = carried_whole
whole_of Bakpat wide = carried_whole
whole_of Cextdef wide = carried_whole
whole_of Comdat wide = carried_whole
whole_of Nbkpat wide = carried_whole
whole_of Vendext wide = carried_whole
whole_of Library wide = carried_whole

abbrev pub whole_if : (t : Option RecordType) (wide : Bool) → Whole (layout_if t wide)
whole_if (Some t) wide = whole_of t wide
whole_if None wide = carried_whole

abbrev pub contents_whole : (kind : ℕ) → Whole (contents kind)
contents_whole kind = whole_if (type_of kind) (is_wide kind)
