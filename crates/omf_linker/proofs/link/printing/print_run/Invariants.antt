use Rattle.std.proofs.Common.{◌≡◌, ◌+◌, ◌++◌, length}
use Rattle.omf_linker.specs.Inner.Blocks.{IsWrittenUpTo}
use Rattle.omf_cmd.specs.Inner.RunLines.{lines_of}
use Rattle.omf_linker.specs.Link.MemoryText.{address_text}
use Rattle.omf_linker.proofs.link.printing.print_run.Given as goal

-- what is in the block, and the lines of what is left, are still to be written
abbrev pub invariant-loop-rest : goal.invariant-loop-rest
invariant-loop-rest g l = record {
  written : IsWrittenUpTo (g.K.Sink.seen l.initial.writer) (g.K.Sink.seen l.writer) (l.initial.block ++ lines_of address_text l.first l.bytes) (l.block ++ lines_of address_text l.address l.rest);
  ends : l.address + length l.rest ≡ l.first + length l.bytes;
}

abbrev pub decreases-loop-rest : goal.decreases-loop-rest
decreases-loop-rest g l = length l.rest
