use Rattle.std.proofs.Common.{◌≡◌, ◌+◌, length}
use Rattle.omf_dump.specs.Inner.Walking.{IsStreamed}
use Rattle.omf_dump.proofs.walk.show_records.Given as goal

-- the walk is somewhere in the records
abbrev pub invariant-loop-left : goal.invariant-loop-left
invariant-loop-left g l = record {
  streamed : IsStreamed l.style l.bytes l.known l.number l.start l.left (g.K.Sink.seen l.initial.writer).bytes (g.K.Sink.seen l.writer).bytes l.text.items;
  ends : l.start + length l.left ≡ length l.bytes;
}

abbrev pub decreases-loop-left : goal.decreases-loop-left
decreases-loop-left g l = length l.left
