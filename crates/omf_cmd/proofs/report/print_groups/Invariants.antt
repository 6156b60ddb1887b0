use Rattle.std.proofs.Common.{◌++◌}
use Rattle.omf_check.specs.Module.{records_in}
use Rattle.omf_check.specs.Tables.{groups}
use Rattle.omf_check.specs.WellFormed.{recs}
use Rattle.omf_cmd.specs.Inner.Names.{group_line}
use Rattle.omf_cmd.specs.Runs.{IsUnbroken}
use Rattle.omf_cmd.specs.Inner.Printing.{IsWrittenUpTo}
use Rattle.omf_cmd.proofs.Reported.{lines_from}
use Rattle.omf_cmd.proofs.report.print_groups.Given as goal

-- what is kept, and the groups that are left, are still to be written
abbrev pub invariant-loop-before : goal.invariant-loop-before
invariant-loop-before g l =
    let m = recs (records_in l.checked.bytes) in
    record {
      written : IsWrittenUpTo (g.K.Sink.seen l.initial.writer).bytes (g.K.Sink.seen l.writer).bytes (l.initial.text.items ++ lines_from (group_line m) (groups m) 0) (l.text.items ++ lines_from (group_line m) (groups m) l.before);
      unbroken : IsUnbroken (g.K.Sink.seen l.initial.writer) (g.K.Sink.seen l.writer);
    }
