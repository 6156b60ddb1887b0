use Rattle.std.proofs.Common.{◌+◌, drop}
use Rattle.std.proofs.lemmas.List.{drop_all, get_or_default}
use Rattle.omf_library.specs.Dictionary.{is_case_sensitive}
use Rattle.omf_lib.specs.Keys.{all_keys}
use Rattle.omf_lib.proofs.DefiningLaws.{so_far_all, so_far_more, so_far_none}
use Rattle.omf_lib.proofs.FindLaws.{rest_more}
use Rattle.omf_lib.proofs.KeyLaws.{no_keys}
use Rattle.omf_lib.proofs.judging.judge_members.Goals as goal

pub loop-number-init : goal.loop-number-init
loop-number-init g c = so_far_none c.args.profile c.args.library.now.header.page c.args.members.now (is_case_sensitive c.args.library.now.header) c.new-keys.result (no_keys c.new-keys.result c.new-keys.ensures.empty)

pub loop-number-preserved : goal.loop-number-preserved
loop-number-preserved g c =
    let ms = c.args.members.now in
    let i = c.loop-number.number in
    let s = is_case_sensitive c.args.library.now.header in
    so_far_more c.args.profile c.args.library.now.header.page ms _ (drop (i + 1) ms) (drop i ms) s c.loop-number.keys c.judge_member.new.keys _ _ c.loop-number.invariant
    (rest_more ms i _ (get_or_default ms i _ _ c.loop-number-test.true) c.loop-number-test.true) c.member_of.ensures.offset c.member_of.ensures.bytes
    (c.in_ok-judge_member.ensures (all_keys s c.loop-number.invariant.done) c.loop-number.invariant.known)

pub returns : goal.returns
returns g c =
    let ms = c.args.members.now in
    let i = c.loop-number.number in
    so_far_all c.args.profile c.args.library.now.header.page ms (drop i ms) (is_case_sensitive c.args.library.now.header) c.loop-number.keys c.loop-number.invariant (drop_all i ms c.loop-number-test.false)
