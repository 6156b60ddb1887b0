use Rattle.std.proofs.Common.{◌≡◌, ◌-◌, ◌+◌, ◌≤◌, length, drop}
use Rattle.omf_dump.proofs.FileLaws.{AreRead}
use Rattle.omf_dump.proofs.file.show_file.Given as goal

-- the modules so far are shown, and the next one would be at `at`
abbrev pub invariant-loop-next : goal.invariant-loop-next
invariant-loop-next g l = record {
  shown : AreRead l.mode l.bytes l.number l.at l.is_refused (g.K.Sink.seen l.fn.writer).bytes (g.K.Sink.seen l.writer).bytes;
  rest : l.rest ≡ drop l.at l.bytes;
  few : l.number ≤ l.at + 1;
  inside : l.at ≤ length l.bytes;
}

abbrev pub decreases-loop-next : goal.decreases-loop-next
decreases-loop-next g l = length l.bytes - l.at
