use Rattle.std.proofs.Common.{◌≡◌, ◌-◌, ◌≤◌, length, drop}
use Rattle.omf_dump.proofs.LibraryLaws.{AreShown}
use Rattle.omf_dump.proofs.library.show_pages.Given as goal

-- the members so far are shown, and the next page is at `at`
abbrev pub invariant-loop-writer : goal.invariant-loop-writer
invariant-loop-writer g l = record {
  shown : AreShown l.mode l.bytes l.number l.at l.is_refused (g.K.Sink.seen l.initial.writer).bytes (g.K.Sink.seen l.writer).bytes;
  rest : l.rest ≡ drop l.at l.bytes;
  few : l.number ≤ l.at;
}

abbrev pub decreases-loop-writer : goal.decreases-loop-writer
decreases-loop-writer g l = length l.bytes - l.at
