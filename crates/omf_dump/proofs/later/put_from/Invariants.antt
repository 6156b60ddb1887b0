use Rattle.std.proofs.Common.{◌+◌, ◌≤◌, ◌++◌, List, length}
use Rattle.omf_records.specs.Values.{Rec}
use Rattle.omf_dump.specs.Inner.Walking.{Holds}
use Rattle.omf_dump.specs.Later.{later_from}
use Rattle.omf_dump.proofs.LaterLaws.{Follows}
use Rattle.omf_dump.proofs.later.put_from.Given as goal

-- what is kept, and the records that are left, are the rest of the text
abbrev pub invariant-loop-left : goal.invariant-loop-left
invariant-loop-left g l = record {
  streamed : (before : List Rec) → Holds l.initial.state.known before → Follows l.style (g.K.Sink.seen l.initial.writer).bytes (g.K.Sink.seen l.writer).bytes
      (l.initial.text.items ++ later_from l.style before l.initial.state.lost l.rest.number l.rest.start 0 l.rest.bytes.now) l.state.known l.state.lost l.number l.start l.left l.text.items;
  count : l.number + length l.left ≤ l.rest.number + length l.rest.bytes.now;
  ends : l.start + length l.left ≤ l.rest.start + length l.rest.bytes.now;
}

abbrev pub decreases-loop-left : goal.decreases-loop-left
decreases-loop-left g l = length l.left
