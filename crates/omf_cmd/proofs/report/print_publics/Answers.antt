use Rattle.std.proofs.Common.{◌++◌, ◌∙◌, ap, refl, sym, subst}
use Rattle.std.specs.Prelude.{flat_map}
use Rattle.omf_check.specs.Module.{records_in}
use Rattle.omf_check.specs.WellFormed.{recs}
use Rattle.omf_cmd.specs.Inner.Printing.{IsWrittenUpTo}
use Rattle.omf_cmd.proofs.Pieces.{left_by, none_written, unbroken_on, went_on}
use Rattle.omf_cmd.proofs.Reported.{item_due, lines-listed, rec_lines}
use Rattle.omf_cmd.proofs.RunLaws.{still}
use Rattle.omf_cmd.proofs.report.print_publics.Goals as goal

pub loop-place-init : goal.loop-place-init
loop-place-init g c =
    let rs = records_in c.args.checked.now.bytes in
    let held = (g.K.Sink.seen c.args.writer.now).bytes in
    let old = c.args.text.now.items in
    let all = ap (flat_map (λ x. rec_lines x.1)) (c.into_iter-place-iterator.ensures.into_iter_gives ∙ c.undecoded-place-items.ensures.listed) ∙ lines-listed 0 0 rs in
    record {
      written = subst (λ t. IsWrittenUpTo held held (old ++ flat_map rec_lines (recs rs)) (old ++ t)) (sym all) (none_written held (old ++ flat_map rec_lines (recs rs)));
      unbroken = still (g.K.Sink.seen c.args.writer.now);
    }

pub returns-in_err-print_publics_of : goal.returns-in_err-print_publics_of
returns-in_err-print_publics_of g c =
    let due = item_due (λ x. rec_lines x.1) (c.in-Some._place, c.in-Some.rec) c.loop-place._place-iterator c.next.new.self c.loop-place.text.items _ c.in-Some.ensures.steps refl in
    let left = left_by (g.K.Sink.seen c.args.writer.now) (g.K.Sink.seen c.loop-place.writer) (g.K.Sink.seen c.print_publics_of.new.writer) _ _ _ _ _ _ _ c.from_residual.ensures.1 c.loop-place.invariant.written c.loop-place.invariant.unbroken due
    c.in_err-print_publics_of.ensures.passes c.in_err-print_publics_of.ensures.cause in
    record { passes = left.passes; cause = left.cause }

pub loop-place-preserved : goal.loop-place-preserved
loop-place-preserved g c =
    let due = item_due (λ x. rec_lines x.1) (c.in-Some._place, c.in-Some.rec) c.loop-place._place-iterator c.next.new.self c.loop-place.text.items _ c.in-Some.ensures.steps refl in
    record {
      written = went_on _ _ _ _ _ _ _ _ c.loop-place.invariant.written due c.in_ok-print_publics_of.ensures.passes;
      unbroken = unbroken_on (g.K.Sink.seen c.args.writer.now) (g.K.Sink.seen c.loop-place.writer) (g.K.Sink.seen c.print_publics_of.new.writer) c.loop-place.invariant.unbroken c.in_ok-print_publics_of.ensures.cause;
    }
