use Rattle.std.proofs.Common.{◌≡◌, ◌<◌, ◌≤◌, ◌-◌, ◌∙◌, ◌⊎◌, arith, true, false, ap, length, sym, subst, rules}
use Rattle.std.specs.Prelude.{nat_lt, ◌||◌}
use Rattle.omf_check.specs.Rules.{item_limit}
use Rattle.omf_lowering.specs.Inner.State.{IsOpen, State}
use Rattle.omf_lowering.specs.Lowering.{IsLoweringFault, IsOrigin}
use Rattle.omf_lowering.proofs.FrontLaws.{not_reached, open_more, open_start, origin_found, reached_cases, stopped_at, too_many}
use Rattle.omf_lowering.proofs.lowering.origin_in.Goals as goal

pub returns-then-is_reached-clause-ok : goal.returns-then-is_reached-clause-ok
returns-then-is_reached-clause-ok c =
    let input = c.args.bytes.now in
    let rest = c.loop-number.rest.now in
    let few : c.loop-number.number < item_limit = search rules in
    let start : c.saturating_sub-start.result ≡ length input - length rest = search rules in
    let t = c.take_front.new.work in
    let same : (c.in-Ok.ends || nat_lt c.args.wanted (length t.before.records)) ≡ true = ap (λ n. c.in-Ok.ends || nat_lt c.args.wanted n) (sym c.count.ensures) ∙ sym c.is_reached.ensures ∙ c.if-is_reached.true in
    let to = subst (λ e. (c.args.wanted < length t.before.records) ⊎ (e ≡ true)) c.in-Ok.ensures.end (reached_cases c.in-Ok.ends c.args.wanted (length t.before.records) same) in
    subst (IsOrigin input c.args.wanted) (sym c.place.ensures)
    (origin_found input rest c.in-Ok.after.now c.loop-number.number c.saturating_sub-start.result c.args.wanted c.loop-number.work t c.loop-number.invariant.open_still few start c.in-Ok.ensures.spelled c.in-Ok.ensures.wide c.in-Ok.ensures.added
    c.loop-number.invariant.few to)

pub returns-in-Err-clause-err : goal.returns-in-Err-clause-err
returns-in-Err-clause-err c =
    let input = c.args.bytes.now in
    let rest = c.loop-number.rest.now in
    let few : c.loop-number.number < item_limit = search rules in
    let start : c.saturating_sub-start.result ≡ length input - length rest = search rules in
    subst (IsLoweringFault input) (sym c.refused.ensures)
    (stopped_at input rest c.loop-number.number c.saturating_sub-start.result c.loop-number.work c.in-Err.stop c.loop-number.invariant.open_still few start c.in-Err.ensures.err)

pub loop-number-init : goal.loop-number-init
loop-number-init c = record {
  open_still = subst (IsOpen c.args.bytes.now c.args.bytes.now 0) (sym c.requires) (open_start c.args.bytes.now);
  few = subst (λ (w : State). length w.before.records ≤ c.args.wanted) (sym c.requires) (omega arith);
}

pub loop-number-preserved : goal.loop-number-preserved
loop-number-preserved c =
    let input = c.args.bytes.now in
    let rest = c.loop-number.rest.now in
    let few : c.loop-number.number < item_limit = search rules in
    let t = c.take_front.new.work in
    let same : (c.in-Ok.ends || nat_lt c.args.wanted (length t.before.records)) ≡ false = ap (λ n. c.in-Ok.ends || nat_lt c.args.wanted n) (sym c.count.ensures) ∙ sym c.is_reached.ensures ∙ c.if-is_reached.false in
    let both = not_reached c.in-Ok.ends c.args.wanted (length t.before.records) same in
    record {
      open_still = open_more input rest c.in-Ok.after.now c.loop-number.number c.loop-number.work t c.loop-number.invariant.open_still few c.in-Ok.ensures.spelled c.in-Ok.ensures.wide c.in-Ok.ensures.sound (sym c.in-Ok.ensures.end ∙ both.0)
          c.in-Ok.ensures.added;
      few = both.1;
    }

pub returns-clause-err : goal.returns-clause-err
returns-clause-err c =
    let input = c.args.bytes.now in
    let many : item_limit ≤ c.loop-number.number = search rules in
    let most : c.loop-number.number ≤ item_limit = search rules in
    subst (IsLoweringFault input) (sym c.too_many.ensures) (too_many input c.loop-number.rest.now c.loop-number.number _ c.loop-number.work c.loop-number.invariant.open_still many (search rules) (omega (arith, many, most)))
