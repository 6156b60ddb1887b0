use Rattle.std.proofs.Common.{arith, refl, subst, sym}
use Rattle.std.proofs.lemmas.Bool.Decides.{nat_tests}
use Rattle.omf_linker.specs.Inner.Blocks.{IsWrittenUpTo}
use Rattle.omf_linker.specs.Link.MemoryText.{address_text}
use Rattle.omf_cmd.specs.declared.fault.RunFault.TheVariants.{Write}
use Rattle.omf_linker.proofs.BlockLaws.{stopped, went_on}
use Rattle.omf_cmd.proofs.RunLines.{line_printed}
use Rattle.omf_linker.proofs.link.printing.print_run.Goals as goal

pub returns-in_err-make_room : goal.returns-in_err-make_room
returns-in_err-make_room g c =
    stopped Write (g.K.Sink.seen c.args.writer.now) (g.K.Sink.seen c.loop-rest.writer) (g.K.Sink.seen c.make_room.new.writer) _ _ _ _ _ c.from_residual.result _ c.from_residual.ensures.1 c.loop-rest.invariant.written refl
    c.in_err-make_room.ensures.passes

pub loop-rest-preserved : goal.loop-rest-preserved
loop-rest-preserved g c =
    let due = line_printed address_text c.loop-rest.address _ _ _ _ _ _ _ (grind (arith, nat_tests)) c.min.ensures c.split_at.ensures.front c.split_at.ensures.back c.add_line.ensures refl in
    record {
      written = subst (IsWrittenUpTo _ _ _) (sym due) (went_on (g.K.Sink.seen c.args.writer.now) (g.K.Sink.seen c.loop-rest.writer) (g.K.Sink.seen c.make_room.new.writer) _ _ _ _ _ c.loop-rest.invariant.written refl c.in_ok-make_room.ensures.passes);
      ends = omega arith;
    }
