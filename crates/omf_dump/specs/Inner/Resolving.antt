-- What is shown of references, computed from the threads kept.
use Rattle.std.specs.Prelude.{List, [], ◌∷◌, ◌++◌, Option, Some, None}
use Rattle.omf_frame.specs.declared.kinds.Width.{Width}
use Rattle.omf_records.specs.Values.{At, Reference, Subrecord, Thread, Fixup}
use Rattle.omf_check.specs.Inner.Judging.{frame_cell, target_cell}
use Rattle.omf_check.specs.Inner.Kept.{set_thread}
use Rattle.omf_check.specs.declared.threads.Threads.{Threads}
use Rattle.omf_dump.specs.Contents.{location_fields, reference_fields, thread_fields}
use Rattle.omf_dump.specs.Fields.{Field, Item, item}
use Rattle.omf_dump.specs.Known.{Data, Tables}

abbrev pub reference_fields_by : Tables → Width → Threads → Reference → List Field
reference_fields_by t width threads r = reference_fields t width (frame_cell threads r) (target_cell threads r) r

abbrev pub subrecord_fields_by : Tables → Option Data → Width → Threads → Subrecord → List Field
subrecord_fields_by t fixed width threads (Thread byte datum) = thread_fields t byte datum
subrecord_fields_by t fixed width threads (Fixup locat r) = location_fields fixed width locat ++ reference_fields_by t width threads r

abbrev pub subrecord_items_by : Tables → Option Data → Width → Threads → List (At Subrecord) → List Item
subrecord_items_by t fixed width threads [] = []
subrecord_items_by t fixed width threads (x ∷ xs) = item x.within (subrecord_fields_by t fixed width threads x.item) ∷ subrecord_items_by t fixed width (set_thread threads x.item) xs

abbrev pub start_items_by : Tables → Width → Threads → Option Reference → List Item
start_items_by t width threads None = []
start_items_by t width threads (Some r) = item r.fix.within (reference_fields_by t width threads r) ∷ []
