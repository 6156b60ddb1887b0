use Rattle.std.proofs.Common.{◌≡◌, ◌≤◌, ◌+◌, ◌-◌, length, drop}
use Rattle.omf_records.specs.Inner.Reads.{each}
use Rattle.omf_lowering.proofs.Steps.{with_front}
use Rattle.omf_lowering.proofs.entries.entries.Given as goal

-- the backpatches read, and those left, are all
abbrev pub invariant-loop-pos : goal.invariant-loop-pos
invariant-loop-pos g l = record {
  inside : l.pos ≤ length l.body;
  same : with_front l.items.items (each (g.T.Entry.reading l.wide) (3 + l.pos) (drop l.pos l.body))
      ≡ each (g.T.Entry.reading l.wide) (3 + l.start) (drop l.start l.body);
}

abbrev pub decreases-loop-pos : goal.decreases-loop-pos
decreases-loop-pos g l = length l.body - l.pos
