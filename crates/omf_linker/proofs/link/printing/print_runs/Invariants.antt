use Rattle.std.proofs.Common.{◌≤◌, ◌-◌, ◌++◌, length, drop}
use Rattle.omf_image.specs.Inner.Joined.{runs_of}
use Rattle.omf_image.specs.Overlay.{byte_at}
use Rattle.omf_linker.specs.Inner.Blocks.{IsWrittenUpTo}
use Rattle.omf_linker.specs.Link.MemoryText.{memory_text}
use Rattle.omf_linker.proofs.link.printing.print_runs.Given as goal

-- what is in the block, and the runs that are left, are still to be written
abbrev pub invariant-loop-first : goal.invariant-loop-first
invariant-loop-first g l = record {
  within : l.k ≤ length (runs_of l.memory 0);
  written : IsWrittenUpTo (g.K.Sink.seen l.initial.writer) (g.K.Sink.seen l.writer) (l.initial.block ++ memory_text (byte_at l.memory 0) (runs_of l.memory 0))
      (l.block ++ memory_text (byte_at l.memory 0) (drop l.k (runs_of l.memory 0)));
}

abbrev pub decreases-loop-first : goal.decreases-loop-first
decreases-loop-first g l = length (runs_of l.memory 0) - l.k
