use Rattle.std.proofs.Common.{◌+◌, ◌≤◌, length}
use Rattle.omf_dump.proofs.FurtherLaws.{AreDone}
use Rattle.omf_dump.proofs.listing.show_modules.Given as goal

-- the lines of the modules so far are written, and the next one would be at the front of the rest
abbrev pub invariant-loop-rest : goal.invariant-loop-rest
invariant-loop-rest g l = record {
  done : AreDone l.listing l.head.items l.bytes l.number l.rest l.is_refused (g.K.Sink.seen l.fn.writer).bytes (g.K.Sink.seen l.writer).bytes;
  few : l.number + length l.rest ≤ length l.bytes + 1;
}

abbrev pub decreases-loop-rest : goal.decreases-loop-rest
decreases-loop-rest g l = length l.rest
