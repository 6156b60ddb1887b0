use Rattle.std.proofs.Common.{◌≡◌, ◌<◌, ◌≤◌, ◌-◌, arith, true, false, length, sym, subst, rules}
use Rattle.omf_check.specs.Rules.{item_limit}
use Rattle.omf_frame.specs.Framing.{front_record, is_end}
use Rattle.omf_lowering.specs.Inner.State.{IsOpen}
use Rattle.omf_lowering.specs.Lowering.{IsLoweringFault}
use Rattle.omf_lowering.proofs.FrontLaws.{open_more, open_start, read_end, stopped_at, too_many}
use Rattle.omf_lowering.proofs.lowering.read_into.Goals as goal

pub returns-in-Ok-true-default-clause-ok : goal.returns-in-Ok-true-default-clause-ok
returns-in-Ok-true-default-clause-ok c =
    let rest = c.loop-number.rest.now in
    let few : c.loop-number.number < item_limit = search rules in
    let ended : is_end (front_record rest).kind ≡ true = search rules in
    let e = c.in-Ok-true-default.ensures in
    read_end c.args.bytes.now rest c.in-Ok-true-default.after.now c.loop-number.number c.loop-number.work c.take_front.new.work c.loop-number.invariant few e.spelled e.wide e.sound ended e.added

pub returns-in-Err-clause-err : goal.returns-in-Err-clause-err
returns-in-Err-clause-err c =
    let rest = c.loop-number.rest.now in
    let few : c.loop-number.number < item_limit = search rules in
    let start : c.saturating_sub.result ≡ length c.args.bytes.now - length rest = search rules in
    subst (IsLoweringFault c.args.bytes.now) (sym c.refused.ensures)
    (stopped_at c.args.bytes.now rest c.loop-number.number c.saturating_sub.result c.loop-number.work c.in-Err.stop c.loop-number.invariant few start c.in-Err.ensures.err)

pub loop-number-init : goal.loop-number-init
loop-number-init c = subst (IsOpen c.args.bytes.now c.args.bytes.now 0) (sym c.requires) (open_start c.args.bytes.now)

pub loop-number-preserved : goal.loop-number-preserved
loop-number-preserved c =
    let rest = c.loop-number.rest.now in
    let few : c.loop-number.number < item_limit = search rules in
    let still : is_end (front_record rest).kind ≡ false = search rules in
    let e = c.in-Ok-false-default.ensures in
    open_more c.args.bytes.now rest c.in-Ok-false-default.after.now c.loop-number.number c.loop-number.work c.take_front.new.work c.loop-number.invariant few e.spelled e.wide e.sound still e.added

pub returns-clause-err : goal.returns-clause-err
returns-clause-err c =
    let input = c.args.bytes.now in
    let rest = c.loop-number.rest.now in
    let many : item_limit ≤ c.loop-number.number = search rules in
    let most : c.loop-number.number ≤ item_limit = search rules in
    let start : c.saturating_sub-2.result ≡ length input - length rest = search rules in
    subst (IsLoweringFault input) (sym c.too_many.ensures)
    (too_many input rest c.loop-number.number c.saturating_sub-2.result c.loop-number.work c.loop-number.invariant many start (omega (arith, many, most)))
