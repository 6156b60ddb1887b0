-- The readings of the layouts of Layouts.
use Rattle.std.proofs.Common.{Bool}
use Rattle.std.specs.Prelude.{◌==◌}
use Rattle.omf_records.specs.Layout.{communal_length, when}
use Rattle.omf_records.specs.Inner.Reads.{Reader, Whole, Shrinks}
use Rattle.omf_records.specs.Inner.FieldReaders.{byte_reader, communal_length_reader, index_reader, name_reader, name_shrinks}
use Rattle.omf_records.specs.Inner.Readers.{◌>=>◌, then_shrinks, give_reader, when_reader}
use Rattle.omf_records.specs.Inner.Many.{each_whole}
use Rattle.omf_virtual.specs.Layouts.{comdef, entry}

abbrev pub element_reader : (b : Bool) → Reader (when b communal_length)
element_reader b = when_reader b communal_length communal_length_reader

abbrev pub entry_reader : Reader entry
entry_reader = name_reader >=> λ n. index_reader >=> λ t. byte_reader >=> λ d. communal_length_reader >=> λ c. element_reader (d == 0x61) >=> λ e. give_reader _

pub entry_shrinks : Shrinks entry_reader.read
entry_shrinks = then_shrinks _ _ name_reader (λ n. index_reader >=> λ t. byte_reader >=> λ d. communal_length_reader >=> λ c. element_reader (d == 0x61) >=> λ e. give_reader _) name_shrinks

abbrev pub comdef_whole : Whole comdef
comdef_whole = each_whole entry entry_reader entry_shrinks
