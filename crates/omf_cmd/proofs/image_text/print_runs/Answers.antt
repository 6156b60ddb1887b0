use Rattle.std.proofs.Common.{◌++◌, ℕ, List, ap, arith, subst, append-nil, ◌∙◌}
use Rattle.std.specs.Prelude.{flat_map}
use Rattle.omf_image.specs.Overlay.{byte_at}
use Rattle.omf_image.specs.declared.run.Run.{Run}
use Rattle.omf_cmd.specs.Relocated.{place_text, run_lines}
use Rattle.omf_cmd.specs.Inner.Printing.{IsWrittenUpTo}
use Rattle.omf_cmd.proofs.Pieces.{left_by, unbroken_on, went_on}
use Rattle.omf_image.proofs.ShownLaws.{none_left, number_fits, number_low}
use Rattle.omf_cmd.proofs.RunLines.{run_and_others}
use Rattle.omf_cmd.proofs.image_text.print_runs.Goals as goal

pub returns-in_err-print_run : goal.returns-in_err-print_run
returns-in_err-print_run g c =
    let due = run_and_others c.args.image.now (place_text c.args.segment) c.args.segment c.loop-first.k c.in-Some.first c.in-Some.bytes.now (c.loop-first.text.items) c.in-Some.ensures in
    let left = left_by (g.K.Sink.seen c.args.writer.now) (g.K.Sink.seen c.loop-first.writer) (g.K.Sink.seen c.print_run.new.writer) _ _ _ _ _ _ _ c.from_residual.ensures.1 c.loop-first.invariant.written c.loop-first.invariant.unbroken due
    c.in_err-print_run.ensures.passes c.in_err-print_run.ensures.cause in
    record { passes = left.passes; cause = left.cause }

pub overflow_add-k : goal.overflow_add-k
overflow_add-k g c =
    let bounds = number_fits c.args.image.now c.args.segment c.loop-first.k c.in-Some.first c.in-Some.bytes.now c.in-Some.ensures in
    omega (arith, bounds)

pub loop-first-smaller : goal.loop-first-smaller
loop-first-smaller g c =
    let bounds = number_low c.args.image.now c.args.segment c.loop-first.k c.in-Some.first c.in-Some.bytes.now c.in-Some.ensures in
    omega (arith, bounds)

pub loop-first-preserved : goal.loop-first-preserved
loop-first-preserved g c =
    let bounds = number_low c.args.image.now c.args.segment c.loop-first.k c.in-Some.first c.in-Some.bytes.now c.in-Some.ensures in
    let due = run_and_others c.args.image.now (place_text c.args.segment) c.args.segment c.loop-first.k c.in-Some.first c.in-Some.bytes.now (c.loop-first.text.items) c.in-Some.ensures in
    record {
      within = omega (arith, bounds);
      written = went_on _ _ _ _ _ _ _ _ c.loop-first.invariant.written due c.in_ok-print_run.ensures.passes;
      unbroken = unbroken_on (g.K.Sink.seen c.args.writer.now) (g.K.Sink.seen c.loop-first.writer) (g.K.Sink.seen c.print_run.new.writer) c.loop-first.invariant.unbroken c.in_ok-print_run.ensures.cause;
    }

pub returns-clause-passes : goal.returns-clause-passes
returns-clause-passes g c =
    let shown : Run → List ℕ = run_lines (place_text c.args.segment) (byte_at c.args.image.now c.args.segment) in
    let left = ap (λ (rs : List Run). c.loop-first.text.items ++ flat_map shown rs) (none_left c.args.image.now c.args.segment c.loop-first.k c.in_default.ensures) ∙ append-nil (c.loop-first.text.items) in
    subst (IsWrittenUpTo _ _ _) left c.loop-first.invariant.written
