use Rattle.std.proofs.Common.{◌+◌, ◌++◌, [], ◌∷◌, sym, ap, ◌∙◌}
use Rattle.std.specs.Prelude.{codes, decimal, unwrap_or, option_map}
use Rattle.omf_check.specs.Module.{records_in}
use Rattle.omf_check.specs.Tables.{segments}
use Rattle.omf_check.specs.WellFormed.{recs}
use Rattle.omf_cmd.specs.Inner.Names.{segment_line}
use Rattle.omf_cmd.specs.Printed.{line}
use Rattle.omf_placement.specs.Quoted.{quoted}
use Rattle.omf_cmd.proofs.Pieces.{halted, left_by, unbroken_on, went_on}
use Rattle.omf_cmd.proofs.Reported.{entry_due, has_entry}
use Rattle.omf_cmd.proofs.report.print_segments.Goals as goal

pub returns-in_err-write_piece : goal.returns-in_err-write_piece
returns-in_err-write_piece g c =
    let m = recs (records_in c.args.checked.now.bytes) in
    let due = entry_due (segment_line m) (segments m) c.loop-before.before c.in-Some.segment (c.loop-before.text.items) _ (sym c.in-Some.ensures) (c.in_ok-print_segment.ensures ∙ ap (λ o. c.loop-before.text.items ++ line (codes "S" ∷ decimal (c.loop-before.before + 1) ∷ decimal c.in-Some.segment.length ∷ unwrap_or (option_map quoted o) (codes "-") ∷ [])) c.name.ensures) in
    let left = left_by (g.K.Sink.seen c.args.writer.now) (g.K.Sink.seen c.loop-before.writer) (g.K.Sink.seen c.write_piece.new.writer) _ _ _ _ _ _ _ c.from_residual-in_err-write_piece.ensures.1 c.loop-before.invariant.written c.loop-before.invariant.unbroken due
    c.in_err-write_piece.ensures.passes c.in_err-write_piece.ensures.cause in
    record { passes = left.passes; cause = left.cause }

pub loop-before-preserved : goal.loop-before-preserved
loop-before-preserved g c =
    let m = recs (records_in c.args.checked.now.bytes) in
    let due = entry_due (segment_line m) (segments m) c.loop-before.before c.in-Some.segment (c.loop-before.text.items) _ (sym c.in-Some.ensures) (c.in_ok-print_segment.ensures ∙ ap (λ o. c.loop-before.text.items ++ line (codes "S" ∷ decimal (c.loop-before.before + 1) ∷ decimal c.in-Some.segment.length ∷ unwrap_or (option_map quoted o) (codes "-") ∷ [])) c.name.ensures) in
    record {
      written = went_on _ _ _ _ _ _ _ _ c.loop-before.invariant.written due c.in_ok-write_piece.ensures.passes;
      unbroken = unbroken_on (g.K.Sink.seen c.args.writer.now) (g.K.Sink.seen c.loop-before.writer) (g.K.Sink.seen c.write_piece.new.writer) c.loop-before.invariant.unbroken c.in_ok-write_piece.ensures.cause;
    }

pub unreachable-requires : goal.unreachable-requires
unreachable-requires g c =
    let m = recs (records_in c.args.checked.now.bytes) in
    has_entry (segments m) c.loop-before.before c.segments-before-end.result c.segments-before-end.ensures.count c.loop-before-test.true (sym c.segment.ensures ∙ c.in_default.is)

pub returns-in_err-print_segment-clause-passes : goal.returns-in_err-print_segment-clause-passes
returns-in_err-print_segment-clause-passes g c = halted _ _ _ _ _ c.from_residual.result c.from_residual.ensures.0 c.loop-before.invariant.written
