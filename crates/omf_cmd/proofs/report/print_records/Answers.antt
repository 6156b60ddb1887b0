use Rattle.std.proofs.Common.{◌-◌, length, subst, sym, refl, ◌∙◌, Err}
use Rattle.std.proofs.lemmas.Result.{err_from_is_err_and}
use Rattle.omf_image.specs.Limits.{profile_limits}
use Rattle.omf_check.specs.Module.{records_in}
use Rattle.omf_reloc.proofs.LeftLaws.{all-left, left-starts}
use Rattle.omf_cmd.proofs.Pieces.{cause_later, halted, unbroken_on}
use Rattle.omf_cmd.proofs.Reported.{AreWritten, none_yet, all_written, more_bytes, more_written, line_stopped}
use Rattle.omf_cmd.proofs.RunLaws.{still}
use Rattle.omf_cmd.proofs.report.print_records.Goals as goal

pub loop-number-init : goal.loop-number-init
loop-number-init g c =
    let b = c.args.checked.now.bytes in
    let held = (g.K.Sink.seen c.args.writer.now).bytes in
    let old = c.args.text.now.items in
    record {
      written = subst (λ left. AreWritten (records_in b) 0 left held held old old) (sym c.bytes-bytes.ensures.bytes)
          (none_yet (records_in b) b held old (all-left c.args.checked.now.profile profile_limits b c.bytes-bytes.ensures.well_formed));
      unbroken = still (g.K.Sink.seen c.args.writer.now);
    }

pub split_record-requires : goal.split_record-requires
split_record-requires g c =
    let h = c.loop-number.invariant.written in
    left-starts c.loop-number.left.now h.after h.are_left
    (more_bytes (records_in c.args.checked.now.bytes) c.loop-number.number c.record_count-number-end.result c.loop-number.left.now _ _ _ _ h c.record_count-number-end.ensures c.loop-number-test.true)

pub returns-in_err-print_record-clause-passes : goal.returns-in_err-print_record-clause-passes
returns-in_err-print_record-clause-passes g c = halted _ _ _ _ _ c.from_residual.result c.from_residual.ensures.0 c.loop-number.invariant.written.written

pub returns-in_err-write_piece-clause-passes : goal.returns-in_err-write_piece-clause-passes
returns-in_err-write_piece-clause-passes g c =
    let b = c.args.checked.now.bytes in
    let raw = c.split_record.result.0 in
    line_stopped (records_in b) c.loop-number.number c.record_count-number-end.result c.loop-number.left.now _ _ c.args.text.now.items c.loop-number.text.items c.loop-number.invariant.written c.record_count-number-end.ensures c.loop-number-test.true
    c.bytes-bytes.result.now (c.bytes-bytes.ensures.bytes ∙ c.bytes-bytes.ensures.well_formed.framed.spelled) (length c.bytes-bytes.result.now - length c.loop-number.left.now) raw.kind raw.body.now refl c.split_record.ensures.kind c.split_record.ensures.body
    c.print_record.new.text.items c.in_ok-print_record.ensures
    (g.K.Sink.seen c.write_piece.new.writer).bytes c.write_piece.new.kept.items c.from_residual-in_err-write_piece.result c.from_residual-in_err-write_piece.ensures.0 c.in_err-write_piece.ensures.passes

pub returns-in_err-write_piece-clause-cause : goal.returns-in_err-write_piece-clause-cause
returns-in_err-write_piece-clause-cause g c =
    let e = err_from_is_err_and c.from_residual-in_err-write_piece.result c.from_residual-in_err-write_piece.ensures.1 in
    rw (e.1, e.2) (
    cause_later (g.K.Sink.seen c.args.writer.now) (g.K.Sink.seen c.loop-number.writer) (g.K.Sink.seen c.write_piece.new.writer) (Err c.in_err-write_piece.field-0.0)
    c.loop-number.invariant.unbroken c.in_err-write_piece.ensures.cause)

pub loop-number-preserved : goal.loop-number-preserved
loop-number-preserved g c =
    let b = c.args.checked.now.bytes in
    let raw = c.split_record.result.0 in
    record {
      written =
          more_written (records_in b) c.loop-number.number c.record_count-number-end.result c.loop-number.left.now _ _ c.args.text.now.items c.loop-number.text.items c.loop-number.invariant.written c.record_count-number-end.ensures c.loop-number-test.true
          c.bytes-bytes.result.now (c.bytes-bytes.ensures.bytes ∙ c.bytes-bytes.ensures.well_formed.framed.spelled) (length c.bytes-bytes.result.now - length c.loop-number.left.now) raw.kind raw.body.now refl c.split_record.ensures.kind c.split_record.ensures.body
          c.print_record.new.text.items c.in_ok-print_record.ensures c.split_record.result.1.now c.split_record.ensures.rest (g.K.Sink.seen c.write_piece.new.writer).bytes c.write_piece.new.kept.items c.in_ok-write_piece.ensures.passes;
      unbroken = unbroken_on (g.K.Sink.seen c.args.writer.now) (g.K.Sink.seen c.loop-number.writer) (g.K.Sink.seen c.write_piece.new.writer) c.loop-number.invariant.unbroken c.in_ok-write_piece.ensures.cause;
    }

pub returns-clause-passes : goal.returns-clause-passes
returns-clause-passes g c = all_written (records_in c.args.checked.now.bytes) c.loop-number.number c.record_count-number-end.result c.loop-number.left.now _ _ _ _ c.loop-number.invariant.written c.record_count-number-end.ensures c.loop-number-test.false
