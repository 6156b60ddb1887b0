-- Subrecords of the code, as those of the specification.
use Rattle.omf_records.specs.declared.subrecord.Part.{Part}
use Rattle.omf_records.specs.declared.subrecord.Part.TheVariants as part
use Rattle.omf_records.specs.Values.{Subrecord, Thread, Fixup}

abbrev pub part_seen : Part → Subrecord
part_seen (part.Thread first index) = Thread first index
part_seen (part.Fixup location reference) = Fixup location reference
