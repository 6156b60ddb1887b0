use Rattle.std.proofs.Common.{◌∙◌, ap}
use Rattle.omf_frame.specs.declared.fault.Reason.TheVariants.{UndefinedSegment}
use Rattle.omf_check.specs.Inner.Judging.{lesser, entry_fault, members_fault}
use Rattle.omf_check.proofs.Lesser.{lesser_more}
use Rattle.omf_check.proofs.rule.members_fault.Goals as goal

pub loop-member-preserved : goal.loop-member-preserved
loop-member-preserved c =
    let n = c.args.count in
    let one = c.member_fault.ensures ∙ ap (λ m. entry_fault n UndefinedSegment m.item) c.member.view_is in
    ap (λ o. lesser o (members_fault n c.next.new.self)) (c.lesser-found.ensures ∙ ap (lesser c.loop-member.found) one)
    ∙ lesser_more c.loop-member.found _ _ (members_fault n c.next.new.self) _ (ap (members_fault n) c.in-Some.ensures.steps) c.loop-member.invariant
