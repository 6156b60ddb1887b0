use Rattle.std.proofs.Common.{◌+◌, ap, sym, ◌∙◌}
use Rattle.std.specs.Prelude.{option_map}
use Rattle.omf_records.specs.Inner.Seen.{contents_seen}
use Rattle.omf_check.specs.Module.{records_in}
use Rattle.omf_check.specs.Tables.{entry, groups}
use Rattle.omf_check.specs.WellFormed.{recs}
use Rattle.omf_cmd.specs.Inner.Names.{group_line}
use Rattle.omf_cmd.proofs.Pieces.{halted, left_by, unbroken_on, went_on}
use Rattle.omf_cmd.proofs.Reported.{entry_due, group_here, has_entry, no_group}
use Rattle.omf_cmd.proofs.report.print_groups.Goals as goal

pub returns-in_err-write_piece : goal.returns-in_err-write_piece
returns-in_err-write_piece g c =
    let m = recs (records_in c.args.checked.now.bytes) in
    let g_is = group_here _ (entry (groups m) (c.loop-before.before + 1)) c.in-Some.ensures in
    let due = entry_due (group_line m) (groups m) c.loop-before.before g_is.0 (c.loop-before.text.items) _ g_is.1 (c.in_ok-print_group_of.ensures g_is.0 g_is.2) in
    let left = left_by (g.K.Sink.seen c.args.writer.now) (g.K.Sink.seen c.loop-before.writer) (g.K.Sink.seen c.write_piece.new.writer) _ _ _ _ _ _ _ c.from_residual-in_err-write_piece.ensures.1 c.loop-before.invariant.written c.loop-before.invariant.unbroken due
    c.in_err-write_piece.ensures.passes c.in_err-write_piece.ensures.cause in
    record { passes = left.passes; cause = left.cause }

pub loop-before-preserved : goal.loop-before-preserved
loop-before-preserved g c =
    let m = recs (records_in c.args.checked.now.bytes) in
    let g_is = group_here _ (entry (groups m) (c.loop-before.before + 1)) c.in-Some.ensures in
    let due = entry_due (group_line m) (groups m) c.loop-before.before g_is.0 (c.loop-before.text.items) _ g_is.1 (c.in_ok-print_group_of.ensures g_is.0 g_is.2) in
    record {
      written = went_on _ _ _ _ _ _ _ _ c.loop-before.invariant.written due c.in_ok-write_piece.ensures.passes;
      unbroken = unbroken_on (g.K.Sink.seen c.args.writer.now) (g.K.Sink.seen c.loop-before.writer) (g.K.Sink.seen c.write_piece.new.writer) c.loop-before.invariant.unbroken c.in_ok-write_piece.ensures.cause;
    }

pub returns-in_err-print_group_of-clause-passes : goal.returns-in_err-print_group_of-clause-passes
returns-in_err-print_group_of-clause-passes g c = halted _ _ _ _ _ c.from_residual.result c.from_residual.ensures.0 c.loop-before.invariant.written

pub unreachable-requires : goal.unreachable-requires
unreachable-requires g c =
    let m = recs (records_in c.args.checked.now.bytes) in
    let none = no_group (entry (groups m) (c.loop-before.before + 1)) (sym (ap (option_map contents_seen) c.in_default.is) ∙ c.group.ensures) in
    has_entry (groups m) c.loop-before.before c.groups-before-end.result c.groups-before-end.ensures.count c.loop-before-test.true none

pub print_group_of-requires : goal.print_group_of-requires
print_group_of-requires g c =
    let m = recs (records_in c.args.checked.now.bytes) in
    let g_is = group_here _ (entry (groups m) (c.loop-before.before + 1)) c.in-Some.ensures in
    (g_is.0, g_is.2)
