use Rattle.std.proofs.Common.{◌++◌, ℕ, List, subst}
use Rattle.omf_image.specs.Inner.Joined.{runs_of}
use Rattle.omf_image.specs.Overlay.{byte_at}
use Rattle.omf_linker.specs.Inner.Blocks.{IsWrittenUpTo}
use Rattle.omf_linker.specs.Link.MemoryText.{memory_text}
use Rattle.omf_cmd.specs.declared.fault.RunFault.TheVariants.{Write}
use Rattle.omf_linker.proofs.BlockLaws.{begun_empty, ended}
use Rattle.omf_linker.proofs.link.printing.print_memory.Goals as goal

pub returns-in_err-print_runs : goal.returns-in_err-print_runs
returns-in_err-print_runs g c =
    let text = memory_text (byte_at c.args.memory.now 0) (runs_of c.args.memory.now 0) in
    begun_empty Write (g.K.Sink.seen c.args.writer.now) (g.K.Sink.seen c.print_runs.new.writer) text c.new-block.result c.from_residual.result _ c.new-block.ensures c.from_residual.ensures.1 c.in_err-print_runs.ensures

pub returns : goal.returns
returns g c =
    let text = memory_text (byte_at c.args.memory.now 0) (runs_of c.args.memory.now 0) in
    let left = subst (λ (t : List ℕ). IsWrittenUpTo (g.K.Sink.seen c.args.writer.now) (g.K.Sink.seen c.print_runs.new.writer) (t ++ text) c.print_runs.new.block) c.new-block.ensures c.in_ok-print_runs.ensures in
    ended Write (g.K.Sink.seen c.args.writer.now) (g.K.Sink.seen c.print_runs.new.writer) (g.K.Sink.seen c.write.new.writer) text c.print_runs.new.block c.write.result left c.write.ensures.printed
