use Rattle.std.proofs.Common.{◌++◌, List, ap, arith, subst, append-nil, ◌∙◌}
use Rattle.omf_image.specs.Overlay.{byte_at}
use Rattle.omf_image.specs.declared.run.Run.{Run}
use Rattle.omf_image.proofs.ShownLaws.{none_left, number_fits, number_low}
use Rattle.omf_linker.specs.Inner.Blocks.{IsWrittenUpTo}
use Rattle.omf_linker.specs.Link.MemoryText.{address_text, memory_text}
use Rattle.omf_cmd.specs.declared.fault.RunFault.TheVariants.{Write}
use Rattle.omf_linker.proofs.BlockLaws.{stopped, went_on}
use Rattle.omf_cmd.proofs.RunLines.{run_and_others}
use Rattle.omf_linker.proofs.link.printing.print_runs.Goals as goal

pub returns-in_err-print_run : goal.returns-in_err-print_run
returns-in_err-print_run g c =
    let due = run_and_others c.args.memory.now address_text 0 c.loop-first.k c.in-Some.first c.in-Some.bytes.now c.loop-first.block c.in-Some.ensures in
    stopped Write (g.K.Sink.seen c.args.writer.now) (g.K.Sink.seen c.loop-first.writer) (g.K.Sink.seen c.print_run.new.writer) _ _ _ _ _ c.from_residual.result _ c.from_residual.ensures.1 c.loop-first.invariant.written due
    c.in_err-print_run.ensures

pub overflow_add-k : goal.overflow_add-k
overflow_add-k g c =
    let bounds = number_fits c.args.memory.now 0 c.loop-first.k c.in-Some.first c.in-Some.bytes.now c.in-Some.ensures in
    omega (arith, bounds)

pub loop-first-smaller : goal.loop-first-smaller
loop-first-smaller g c =
    let bounds = number_low c.args.memory.now 0 c.loop-first.k c.in-Some.first c.in-Some.bytes.now c.in-Some.ensures in
    omega (arith, bounds)

pub loop-first-preserved : goal.loop-first-preserved
loop-first-preserved g c =
    let bounds = number_low c.args.memory.now 0 c.loop-first.k c.in-Some.first c.in-Some.bytes.now c.in-Some.ensures in
    let due = run_and_others c.args.memory.now address_text 0 c.loop-first.k c.in-Some.first c.in-Some.bytes.now c.loop-first.block c.in-Some.ensures in
    record {
      within = omega (arith, bounds);
      written = went_on (g.K.Sink.seen c.args.writer.now) (g.K.Sink.seen c.loop-first.writer) (g.K.Sink.seen c.print_run.new.writer) _ _ _ _ _ c.loop-first.invariant.written due c.in_ok-print_run.ensures;
    }

pub returns : goal.returns
returns g c =
    let laid = c.args.memory.now in
    let left = ap (λ (rs : List Run). c.loop-first.block ++ memory_text (byte_at laid 0) rs) (none_left laid 0 c.loop-first.k c.in_default.ensures) ∙ append-nil c.loop-first.block in
    subst (IsWrittenUpTo _ _ _) left c.loop-first.invariant.written
