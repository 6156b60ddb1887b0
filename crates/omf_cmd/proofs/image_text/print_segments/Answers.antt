use Rattle.std.proofs.Common.{ℕ, List, arith}
use Rattle.std.specs.Prelude.{flat_map}
use Rattle.omf_image.specs.Inner.Joined.{runs_of}
use Rattle.omf_image.specs.Overlay.{byte_at}
use Rattle.omf_cmd.specs.Relocated.{place_text, run_lines}
use Rattle.omf_cmd.proofs.Pieces.{left_by, unbroken_on, went_on}
use Rattle.omf_cmd.proofs.RunLines.{segment_and_others}
use Rattle.omf_cmd.proofs.image_text.print_segments.Goals as goal

pub returns-in_err-print_runs : goal.returns-in_err-print_runs
returns-in_err-print_runs g c =
    let shown : ℕ → List ℕ = λ s. flat_map (run_lines (place_text s) (byte_at c.args.image.now s)) (runs_of c.args.image.now s) in
    let due = segment_and_others shown c.loop-before.before c.args.segments (c.loop-before.text.items) (omega arith) in
    let left = left_by (g.K.Sink.seen c.args.writer.now) (g.K.Sink.seen c.loop-before.writer) (g.K.Sink.seen c.print_runs.new.writer) _ _ _ _ _ _ _ c.from_residual.ensures.1 c.loop-before.invariant.written c.loop-before.invariant.unbroken due
    c.in_err-print_runs.ensures.passes c.in_err-print_runs.ensures.cause in
    record { passes = left.passes; cause = left.cause }

pub loop-before-preserved : goal.loop-before-preserved
loop-before-preserved g c =
    let shown : ℕ → List ℕ = λ s. flat_map (run_lines (place_text s) (byte_at c.args.image.now s)) (runs_of c.args.image.now s) in
    let due = segment_and_others shown c.loop-before.before c.args.segments (c.loop-before.text.items) (omega arith) in
    record {
      written = went_on _ _ _ _ _ _ _ _ c.loop-before.invariant.written due c.in_ok-print_runs.ensures.passes;
      unbroken = unbroken_on (g.K.Sink.seen c.args.writer.now) (g.K.Sink.seen c.loop-before.writer) (g.K.Sink.seen c.print_runs.new.writer) c.loop-before.invariant.unbroken c.in_ok-print_runs.ensures.cause;
    }
