-- The contents that a look-up at a record returns, as typed records of the specification.
use Rattle.std.specs.Prelude.{Bool, if◌then◌else◌}
use Rattle.omf_check.specs.declared.contents.Comment.{Comment as CodeComment}
use Rattle.omf_check.specs.declared.contents.Data.{Data}
use Rattle.omf_check.specs.declared.contents.Data.TheVariants as data_case
use Rattle.omf_check.specs.declared.contents.Externals.{Externals}
use Rattle.omf_check.specs.declared.contents.Externals.TheVariants as external_case
use Rattle.omf_check.specs.declared.contents.Publics.{Publics as CodePublics}
use Rattle.omf_check.specs.declared.contents.References.{References}
use Rattle.omf_check.specs.declared.contents.References.TheVariants as reference_case
use Rattle.omf_records.specs.Inner.Seen.{odd_if}
use Rattle.omf_records.specs.Values.{Contents, Comment, Externs, Publics, Communals, Plain, Iterated, Fixups, ModEnd, Rec}

-- The record of a COMENT.
abbrev pub comment_seen : CodeComment → Rec
comment_seen c = record { kind = 0x88; contents = Comment c.type_byte c.class c.text.now }

-- The record of a PUBDEF, or of an LPUBDEF if `local` is set.
abbrev pub publics_seen : Bool → CodePublics → Rec
publics_seen local p = record {
  kind = odd_if p.width (if local then 0xB6 else 0x90);
  contents = Publics (record { group = p.group; segment = p.segment; frame = p.frame; items = p.items });
}

-- The contents of a record with external names, and whether they are local.
abbrev pub externals_seen : Externals → Contents
externals_seen (external_case.Externs local items) = Externs items
externals_seen (external_case.Communals local items) = Communals items

abbrev pub externals_local : Externals → Bool
externals_local (external_case.Externs local items) = local
externals_local (external_case.Communals local items) = local

-- The record of a FIXUPP or of a MODEND.
abbrev pub references_seen : References → Rec
references_seen (reference_case.Fixups width subrecords) = record { kind = odd_if width 0x9C; contents = Fixups subrecords }
references_seen (reference_case.ModEnd width type_byte start) = record { kind = odd_if width 0x8A; contents = ModEnd type_byte start }

-- The record of an LEDATA or of an LIDATA.
abbrev pub data_seen : Data → Rec
data_seen (data_case.Plain width segment offset bytes) = record { kind = odd_if width 0xA0; contents = Plain (record { segment = segment; offset = offset; bytes = bytes.now }) }
data_seen (data_case.Iterated segment offset blocks) = record { kind = odd_if blocks.width 0xA2; contents = Iterated (record { segment = segment; offset = offset; bytes = blocks.bytes.now }) }
