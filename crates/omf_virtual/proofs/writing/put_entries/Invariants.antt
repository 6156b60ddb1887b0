use Rattle.std.proofs.Common.{◌≡◌, ◌++◌, drop}
use Rattle.std.specs.Prelude.{flat_map}
use Rattle.omf_frame.specs.Framing.{raw_bytes}
use Rattle.omf_virtual.specs.Virtual.{entry_records}
use Rattle.omf_virtual.proofs.writing.put_entries.Given as goal

-- the entries so far, and those to come
abbrev pub invariant-loop-entry : goal.invariant-loop-entry
invariant-loop-entry l = l.out.items ++ flat_map raw_bytes (entry_records l.table l.index (drop l.entry-index l.entries)) ≡ l.fn.out.items ++ flat_map raw_bytes (entry_records l.table l.before l.entries)
