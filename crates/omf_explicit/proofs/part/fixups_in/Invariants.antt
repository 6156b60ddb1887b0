use Rattle.std.proofs.Common.{◌≡◌, ◌≤◌, ◌+◌, ◌-◌, length, drop}
use Rattle.omf_records.specs.Inner.Reads.{each}
use Rattle.omf_explicit.specs.Inner.Readers.{part_reader}
use Rattle.omf_explicit.proofs.PartSteps.{with_front}
use Rattle.omf_explicit.proofs.part.fixups_in.Given as goal

-- the parts read, and those left, are all
abbrev pub invariant-loop-pos : goal.invariant-loop-pos
invariant-loop-pos l = record {
  inside : l.pos ≤ length l.body;
  same : with_front l.items.items (each (part_reader l.wide).read (3 + l.pos) (drop l.pos l.body)) ≡ each (part_reader l.wide).read 3 l.body;
}

abbrev pub decreases-loop-pos : goal.decreases-loop-pos
decreases-loop-pos l = length l.body - l.pos
