use Rattle.std.proofs.Common.{◌≡◌, ◌≤◌, ◌+◌, ◌++◌, drop}
use Rattle.std.specs.Prelude.{flat_map}
use Rattle.omf_frame.specs.Framing.{raw_bytes}
use Rattle.omf_aligned.specs.Aligned.{with_pages}
use Rattle.omf_aligned.proofs.WalkLaws.{replaced_from}
use Rattle.omf_aligned.proofs.writing.written.Given as goal

-- what replaces the records so far, and those to come; each index is of a record
abbrev pub invariant-loop-record : goal.invariant-loop-record
invariant-loop-record l = record {
  all : l.out.items ++ flat_map raw_bytes (replaced_from l.index (drop l.record-index l.records)) ≡ flat_map raw_bytes (with_pages l.records);
  few : l.index ≤ l.record-index + 1;
}
