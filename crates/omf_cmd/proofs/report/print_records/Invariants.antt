use Rattle.omf_check.specs.Module.{records_in}
use Rattle.omf_cmd.specs.Runs.{IsUnbroken}
use Rattle.omf_cmd.proofs.Reported.{AreWritten}
use Rattle.omf_cmd.proofs.report.print_records.Given as goal

-- what is kept, and the lines of the records that are left, are still to be written
abbrev pub invariant-loop-number : goal.invariant-loop-number
invariant-loop-number g l = record {
  written : AreWritten (records_in l.checked.bytes) l.number l.left (g.K.Sink.seen l.initial.writer).bytes (g.K.Sink.seen l.writer).bytes (l.initial.text.items) (l.text.items);
  unbroken : IsUnbroken (g.K.Sink.seen l.initial.writer) (g.K.Sink.seen l.writer);
}
