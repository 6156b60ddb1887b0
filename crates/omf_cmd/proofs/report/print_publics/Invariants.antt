use Rattle.std.proofs.Common.{◌++◌}
use Rattle.std.specs.Prelude.{flat_map}
use Rattle.omf_check.specs.Module.{records_in}
use Rattle.omf_check.specs.WellFormed.{recs}
use Rattle.omf_cmd.specs.Runs.{IsUnbroken}
use Rattle.omf_cmd.specs.Inner.Printing.{IsWrittenUpTo}
use Rattle.omf_cmd.proofs.Reported.{rec_lines}
use Rattle.omf_cmd.proofs.report.print_publics.Given as goal

-- what is kept, and the public names of the records that are left, are still to be written
abbrev pub invariant-loop-place : goal.invariant-loop-place
invariant-loop-place g l = record {
  written : IsWrittenUpTo (g.K.Sink.seen l.initial.writer).bytes (g.K.Sink.seen l.writer).bytes
      (l.initial.text.items ++ flat_map rec_lines (recs (records_in l.checked.bytes)))
      (l.text.items ++ flat_map (λ x. rec_lines x.1) l._place-iterator);
  unbroken : IsUnbroken (g.K.Sink.seen l.initial.writer) (g.K.Sink.seen l.writer);
}
