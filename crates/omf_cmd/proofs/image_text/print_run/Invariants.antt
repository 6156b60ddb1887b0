use Rattle.std.proofs.Common.{◌≡◌, ◌+◌, ◌++◌, length}
use Rattle.omf_cmd.specs.Relocated.{place_text}
use Rattle.omf_cmd.specs.Inner.RunLines.{lines_of}
use Rattle.omf_cmd.specs.Runs.{IsUnbroken}
use Rattle.omf_cmd.specs.Inner.Printing.{IsWrittenUpTo}
use Rattle.omf_cmd.proofs.image_text.print_run.Given as goal

-- what is kept, and the lines of what is left, are still to be written
abbrev pub invariant-loop-rest : goal.invariant-loop-rest
invariant-loop-rest g l = record {
  written : IsWrittenUpTo (g.K.Sink.seen l.initial.writer).bytes (g.K.Sink.seen l.writer).bytes (l.initial.text.items ++ lines_of (place_text l.segment) l.first l.bytes) (l.text.items ++ lines_of (place_text l.segment) l.offset l.rest);
  ends : l.offset + length l.rest ≡ l.first + length l.bytes;
  unbroken : IsUnbroken (g.K.Sink.seen l.initial.writer) (g.K.Sink.seen l.writer);
}

abbrev pub decreases-loop-rest : goal.decreases-loop-rest
decreases-loop-rest g l = length l.rest
