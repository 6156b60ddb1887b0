use Rattle.std.proofs.Common.{[], ◌∷◌}
use Rattle.std.specs.Prelude.{codes}
use Rattle.omf_cmd.specs.Printed.{line, index_or_dash}
use Rattle.omf_placement.specs.Quoted.{hex, quoted}
use Rattle.omf_cmd.proofs.Pieces.{halted, left_by, unbroken_on, went_on}
use Rattle.omf_cmd.proofs.Reported.{item_due}
use Rattle.omf_cmd.proofs.report.print_items.Goals as goal

pub returns-in_err-print_item-clause-passes : goal.returns-in_err-print_item-clause-passes
returns-in_err-print_item-clause-passes g c = halted _ _ _ _ _ c.from_residual.result c.from_residual.ensures.0 c.loop-public.invariant.written

pub returns-in_err-write_piece : goal.returns-in_err-write_piece
returns-in_err-write_piece g c =
    let due = item_due (λ q. line (codes "P" ∷ index_or_dash c.args.group ∷ index_or_dash c.args.segment ∷ hex 8 q.item.offset ∷ quoted q.item.name ∷ [])) _ _ _ (c.loop-public.text.items) (c.print_item.new.text.items) c.in-Some.ensures.steps c.in_ok-print_item.ensures in
    let left = left_by (g.K.Sink.seen c.args.writer.now) (g.K.Sink.seen c.loop-public.writer) (g.K.Sink.seen c.write_piece.new.writer) _ _ _ _ _ _ _ c.from_residual-in_err-write_piece.ensures.1 c.loop-public.invariant.written c.loop-public.invariant.unbroken due
    c.in_err-write_piece.ensures.passes c.in_err-write_piece.ensures.cause in
    record { passes = left.passes; cause = left.cause }

pub loop-public-preserved : goal.loop-public-preserved
loop-public-preserved g c =
    let due = item_due (λ q. line (codes "P" ∷ index_or_dash c.args.group ∷ index_or_dash c.args.segment ∷ hex 8 q.item.offset ∷ quoted q.item.name ∷ [])) _ _ _ (c.loop-public.text.items) (c.print_item.new.text.items) c.in-Some.ensures.steps c.in_ok-print_item.ensures in
    record {
      written = went_on _ _ _ _ _ _ _ _ c.loop-public.invariant.written due c.in_ok-write_piece.ensures.passes;
      unbroken = unbroken_on (g.K.Sink.seen c.args.writer.now) (g.K.Sink.seen c.loop-public.writer) (g.K.Sink.seen c.write_piece.new.writer) c.loop-public.invariant.unbroken c.in_ok-write_piece.ensures.cause;
    }
