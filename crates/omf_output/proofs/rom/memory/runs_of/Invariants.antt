use Rattle.std.proofs.Common.{◌≡◌, ◌≤◌, ◌-◌, ◌^◌, ◌++◌, length, drop, map}
use Rattle.std.specs.Prelude.{All}
use Rattle.omf_image.specs.Inner.Joined.{runs_of}
use Rattle.omf_image.specs.Overlay.{AreBytesOver, byte_at}
use Rattle.omf_output.specs.Rom.Memory.{interval}
use Rattle.omf_output.specs.Rom.Runs.{AreBelow, HaveBytes}
use Rattle.omf_output.proofs.rom.memory.runs_of.Given as goal

-- the runs so far
abbrev pub invariant-loop-first : goal.invariant-loop-first
invariant-loop-first l = record {
  within : l.k ≤ length (runs_of l.memory 0);
  intervals : map interval l.runs.items ++ drop l.k (runs_of l.memory 0) ≡ runs_of l.memory 0;
  bytes : All (λ r. AreBytesOver (byte_at l.memory 0) (interval r) r.bytes.now) l.runs.items;
  are : HaveBytes l.runs.items;
  below : AreBelow (2 ^ 32) l.runs.items;
}

abbrev pub decreases-loop-first : goal.decreases-loop-first
decreases-loop-first l = length (runs_of l.memory 0) - l.k
