use Rattle.std.proofs.Common.{◌+◌, ◌∙◌, ap, drop, length, sym, subst}
use Rattle.std.specs.Prelude.{fold}
use Rattle.omf_output.specs.Inner.Laying.{EndsIn}
use Rattle.omf_output.specs.Exe.Members.{all_moving}
use Rattle.omf_output.specs.Exe.Memory.{all_chunks, put}
use Rattle.omf_placement.proofs.StepLaws.{next_item, none_left}
use Rattle.omf_output.proofs.Steps.{all-at, lay-more}
use Rattle.omf_output.proofs.exe.laying.lay_all.Goals as goal

pub lay_member-requires : goal.lay_member-requires
lay_member-requires c =
    let ms = c.args.members.now in
    let i = c.loop-member.member-index in
    let m = c.member-item.result in
    subst (λ n. EndsIn n m) (sym c.loop-member.auto.image)
    (all-at (EndsIn (length c.args.image.now)) ms i m c.requires (next_item ms i m c.member-item.is c.loop-member-test.true))

pub loop-member-preserved : goal.loop-member-preserved
loop-member-preserved c =
    let ms = c.args.members.now in
    let i = c.loop-member.member-index in
    let m = c.member-item.result in
    lay-more m (drop (i + 1) ms) (drop i ms) c.loop-member.image c.lay_member.new.image _ (next_item ms i m c.member-item.is c.loop-member-test.true) c.in_ok-lay_member.ensures c.loop-member.invariant

pub returns : goal.returns
returns c =
    let ms = c.args.members.now in
    sym (ap (λ l. fold (put 0) c.loop-member.image (all_chunks (all_moving l))) (none_left ms c.loop-member.member-index c.loop-member-test.false)) ∙ c.loop-member.invariant
