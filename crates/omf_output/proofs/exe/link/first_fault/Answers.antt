use Rattle.std.proofs.Common.{◌+◌, ◌∙◌, ap, drop, sym}
use Rattle.std.specs.Prelude.{filter_map, slice_get}
use Rattle.omf_output.specs.Exe.Linked.{member_fault}
use Rattle.omf_output.proofs.LinkedLaws.{found-fault, no-fault-here}
use Rattle.omf_placement.proofs.StepLaws.{next_item, none_left}
use Rattle.omf_output.proofs.exe.link.first_fault.Goals as goal

pub returns-in-Some : goal.returns-in-Some
returns-in-Some c =
    let ms = c.args.members.now in
    let i = c.loop-member.member-index in
    let m = c.member-item.result in
    found-fault member_fault m (drop (i + 1) ms) (drop i ms) c.in-Some.fault _ (next_item ms i m c.member-item.is c.loop-member-test.true) (sym c.member_fault.ensures ∙ c.in-Some.is) c.loop-member.invariant

pub loop-member-preserved : goal.loop-member-preserved
loop-member-preserved c =
    let ms = c.args.members.now in
    let i = c.loop-member.member-index in
    let m = c.member-item.result in
    no-fault-here member_fault m (drop (i + 1) ms) (drop i ms) _ (next_item ms i m c.member-item.is c.loop-member-test.true) (sym c.member_fault.ensures ∙ c.in_default.is) c.loop-member.invariant

pub returns : goal.returns
returns c =
    let ms = c.args.members.now in
    sym (ap (λ l. slice_get (filter_map member_fault l) 0) (none_left ms c.loop-member.member-index c.loop-member-test.false)) ∙ c.loop-member.invariant
