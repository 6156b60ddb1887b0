use Rattle.std.proofs.Common.{◌≡◌, ◌<◌, ◌∙◌, length, get_or, ap, sym, rules}
use Rattle.omf_lowering.specs.Inner.State.{seen}
use Rattle.omf_lowering.specs.Unrolled.{after_record}
use Rattle.omf_lowering.proofs.RollLaws.{roll_more, roll_stop}
use Rattle.omf_lowering.proofs.unroll.unrolled_records.Goals as goal

pub loop-number-preserved : goal.loop-number-preserved
loop-number-preserved c =
    let rs = c.args.records.now in
    let r = c.index-records-number.result in
    let low : c.loop-number.number < length rs = search rules in
    let is : r ≡ get_or rs c.loop-number.number r = search rules in
    roll_more rs c.loop-number.number r c.loop-number.work c.take.new.self low is c.loop-number.invariant (ap (after_record c.loop-number.work) (sym c.as_front.ensures.seen) ∙ c.in-Ok.ensures)

pub returns-in-Err-clause-err : goal.returns-in-Err-clause-err
returns-in-Err-clause-err c =
    let rs = c.args.records.now in
    let r = c.index-records-number.result in
    let low : c.loop-number.number < length rs = search rules in
    let is : r ≡ get_or rs c.loop-number.number r = search rules in
    roll_stop rs c.loop-number.number r (seen c.as_front.result) c.loop-number.work c.take.new.self c.in-Err.stop low is c.as_front.ensures.seen c.loop-number.invariant c.in-Err.ensures
