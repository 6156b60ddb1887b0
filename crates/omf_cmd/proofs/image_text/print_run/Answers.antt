use Rattle.std.proofs.Common.{arith, refl}
use Rattle.std.proofs.lemmas.Bool.Decides.{nat_tests}
use Rattle.omf_cmd.specs.Relocated.{place_text}
use Rattle.omf_cmd.proofs.Pieces.{left_by, unbroken_on, went_on}
use Rattle.omf_cmd.proofs.RunLines.{line_printed}
use Rattle.omf_cmd.proofs.image_text.print_run.Goals as goal

pub returns-in_err-write_piece : goal.returns-in_err-write_piece
returns-in_err-write_piece g c =
    let due = line_printed (place_text c.args.segment) c.loop-rest.offset _ _ _ _ _ _ _ (grind (arith, nat_tests)) c.min.ensures c.split_at.ensures.front c.split_at.ensures.back c.in_ok-print_line.ensures refl in
    let left = left_by (g.K.Sink.seen c.args.writer.now) (g.K.Sink.seen c.loop-rest.writer) (g.K.Sink.seen c.write_piece.new.writer) _ _ _ _ _ _ _ c.from_residual-in_err-write_piece.ensures.1 c.loop-rest.invariant.written c.loop-rest.invariant.unbroken due
    c.in_err-write_piece.ensures.passes c.in_err-write_piece.ensures.cause in
    record { passes = left.passes; cause = left.cause }

pub loop-rest-preserved : goal.loop-rest-preserved
loop-rest-preserved g c =
    let due = line_printed (place_text c.args.segment) c.loop-rest.offset _ _ _ _ _ _ _ (grind (arith, nat_tests)) c.min.ensures c.split_at.ensures.front c.split_at.ensures.back c.in_ok-print_line.ensures refl in
    record {
      written = went_on _ _ _ _ _ _ _ _ c.loop-rest.invariant.written due c.in_ok-write_piece.ensures.passes;
      ends = omega arith;
      unbroken = unbroken_on (g.K.Sink.seen c.args.writer.now) (g.K.Sink.seen c.loop-rest.writer) (g.K.Sink.seen c.write_piece.new.writer) c.loop-rest.invariant.unbroken c.in_ok-write_piece.ensures.cause;
    }
