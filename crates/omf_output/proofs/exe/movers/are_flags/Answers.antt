use Rattle.std.proofs.Common.{◌<◌, ◌∙◌, ap, sym, arith, length, false, get_or}
use Rattle.std.specs.Prelude.{not}
use mathlib.Core.Bool.{beq}
use Rattle.omf_check.specs.Module.{recs_of}
use Rattle.omf_check.specs.Tables.{segments}
use Rattle.omf_output.specs.Exe.Based.{segments_moving}
use Rattle.omf_output.proofs.FlagLaws.{flag-agrees, flag-differs, flags-differ, many-flags, none-entered}
use Rattle.omf_output.proofs.exe.movers.are_flags.Goals as goal

pub returns-then-flags-from : goal.returns-then-flags-from
returns-then-flags-from c =
    let m = recs_of c.args.«module».now.bytes in
    sym (flags-differ c.args.flags.now (segments_moving m) (λ e. c.if-flags-from.true (e ∙ many-flags m ∙ sym (c.from.ensures ∙ c.segments.ensures.count))))

pub unreachable-requires : goal.unreachable-requires
unreachable-requires c =
    let m = recs_of c.args.«module».now.bytes in
    none-entered (segments m) c.loop-before.before (sym c.segment.ensures ∙ c.in_default.is) (omega (arith, c.loop-before-test.true, c.loop-before.invariant.end))

pub returns-then-flags-from-2 : goal.returns-then-flags-from-2
returns-then-flags-from-2 c =
    let m = recs_of c.args.«module».now.bytes in
    let low : c.loop-before.before < length c.args.flags.now = omega (arith, c.loop-before-test.true, c.if-flags-from.false, c.from.ensures, c.segments.ensures.count, c.loop-before.invariant.end) in
    sym (flag-differs c.args.flags.now m c.loop-before.before c.in-Some.segment c.is_movable.result low (sym c.segment.ensures ∙ c.in-Some.is) c.is_movable.ensures (ap (λ k. not (beq (get_or c.args.flags.now k false) c.is_movable.result)) (sym c.from-in-loop-before.ensures) ∙ c.if-flags-from-2.true)) ∙ c.loop-before.invariant.left

pub loop-before-preserved : goal.loop-before-preserved
loop-before-preserved c =
    let m = recs_of c.args.«module».now.bytes in
    let low : c.loop-before.before < length c.args.flags.now = omega (arith, c.loop-before-test.true, c.if-flags-from.false, c.from.ensures, c.segments.ensures.count, c.loop-before.invariant.end) in
    record {
      left = flag-agrees c.args.flags.now m c.loop-before.before c.in-Some.segment c.is_movable.result low (sym c.segment.ensures ∙ c.in-Some.is) c.is_movable.ensures (ap (λ k. not (beq (get_or c.args.flags.now k false) c.is_movable.result)) (sym c.from-in-loop-before.ensures) ∙ c.if-flags-from-2.false) ∙ c.loop-before.invariant.left;
      end = c.loop-before.invariant.end;
    }
