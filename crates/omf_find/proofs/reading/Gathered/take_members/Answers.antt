use Rattle.std.proofs.Common.{◌+◌, drop}
use Rattle.std.proofs.lemmas.List.{drop_all, get_or_default}
use Rattle.omf_placement.proofs.StepLaws.{next_item}
use Rattle.omf_find.proofs.GatheredLaws.{all_taken, none_taken, one_more_taken}
use Rattle.omf_find.proofs.reading.Gathered.take_members.Goals as goal

pub loop-member-init : goal.loop-member-init
loop-member-init c = none_taken c.args.profile c.args.file c.args.members.now c.args.self.now

pub loop-member-preserved : goal.loop-member-preserved
loop-member-preserved c =
    let ms = c.args.members.now in
    let i = c.loop-member.member in
    one_more_taken c.args.profile c.args.file ms i _ (drop (i + 1) ms) (drop i ms) c.args.self.now c.loop-member.self c.take.new.self c.loop-member.invariant
    (next_item ms i _ (get_or_default ms i _ _ c.loop-member-test.true) c.loop-member-test.true) c.in_ok-take.ensures

pub returns : goal.returns
returns c =
    let ms = c.args.members.now in
    let i = c.loop-member.member in
    all_taken c.args.profile c.args.file ms i (drop i ms) c.args.self.now c.loop-member.self c.loop-member.invariant (drop_all i ms c.loop-member-test.false)
