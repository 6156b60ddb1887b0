use Rattle.std.proofs.Common.{◌+◌, drop}
use Rattle.std.proofs.lemmas.List.{drop_all, get_or_default}
use Rattle.omf_lib.proofs.FindLaws.{all_listed, none_listed, one_more_listed, rest_more}
use Rattle.omf_lib.proofs.finding.all_publics.Goals as goal

pub loop-number-init : goal.loop-number-init
loop-number-init c = none_listed c.args.members.now c.new-all.result.items c.new-all.ensures.items

pub loop-number-preserved : goal.loop-number-preserved
loop-number-preserved c =
    let ms = c.args.members.now in
    let i = c.loop-number.number in
    one_more_listed ms i _ (drop (i + 1) ms) (drop i ms) c.loop-number.all.items c.push_publics.new.all.items c.loop-number.invariant
    (rest_more ms i _ (get_or_default ms i _ _ c.loop-number-test.true) c.loop-number-test.true) c.in_ok-push_publics.ensures

pub returns : goal.returns
returns c =
    let ms = c.args.members.now in
    let i = c.loop-number.number in
    all_listed ms i (drop i ms) c.loop-number.all.items c.loop-number.invariant (drop_all i ms c.loop-number-test.false)
