use Rattle.std.proofs.Common.{◌≡◌, ◌≤◌, ◌+◌, ◌-◌, length, drop}
use Rattle.omf_records.specs.Inner.Reads.{each}
use Rattle.omf_explicit.proofs.PartSteps.{with_front}
use Rattle.omf_virtual.specs.Inner.Readers.{entry_reader}
use Rattle.omf_virtual.proofs.entry.entries_of.Given as goal

-- the entries read, and those left, are all
abbrev pub invariant-loop-pos : goal.invariant-loop-pos
invariant-loop-pos l = record {
  inside : l.pos ≤ length l.body;
  same : with_front l.items.items (each entry_reader.read (3 + l.pos) (drop l.pos l.body)) ≡ each entry_reader.read 3 l.body;
}

abbrev pub decreases-loop-pos : goal.decreases-loop-pos
decreases-loop-pos l = length l.body - l.pos
