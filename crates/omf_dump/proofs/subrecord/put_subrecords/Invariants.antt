use Rattle.std.proofs.Common.{◌≡◌, ◌++◌}
use Rattle.std.specs.Prelude.{true}
use Rattle.omf_check.specs.Inner.Kept.{set_threads}
use Rattle.omf_dump.specs.Inner.Resolving.{subrecord_items_by}
use Rattle.omf_dump.specs.Render.{items_text}
use Rattle.omf_dump.proofs.subrecord.put_subrecords.Given as goal

-- what is written, and the subrecords that are left, are all of them; the threads of those that are left are still to be set
abbrev pub invariant-loop-subrecord : goal.invariant-loop-subrecord
invariant-loop-subrecord l = record {
  text : l.text.items ++ items_text l.format l.is_first (subrecord_items_by l.known.tables l.known.fixed l.width l.known.threads l.subrecord-iterator)
      ≡ l.fn.text.items ++ items_text l.format true (subrecord_items_by l.fn.known.tables l.fn.known.fixed l.width l.fn.known.threads l.fn.subrecords);
  threads : set_threads l.known.threads l.subrecord-iterator ≡ set_threads l.fn.known.threads l.fn.subrecords;
  tables : l.known.tables ≡ l.fn.known.tables;
  fixed : l.known.fixed ≡ l.fn.known.fixed;
}
