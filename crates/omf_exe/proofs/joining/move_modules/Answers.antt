use Rattle.std.proofs.Common.{◌≡◌, ◌∷◌, ◌∙◌, ap}
use Rattle.std.specs.Vec.Iter.{into_iter_items}
use Rattle.omf_exe.proofs.JoiningLaws.{moving_fails}
use Rattle.omf_exe.proofs.joining.move_modules.Goals as goal

pub returns-in-Refused-clause-fault : goal.returns-in-Refused-clause-fault
returns-in-Refused-clause-fault c =
    let left = into_iter_items c.loop-member.member-iterator in
    let rest = into_iter_items c.next.new.self in
    let steps : left ≡ c.in-Some.member ∷ rest = c.in-Some.ensures.steps.0 in
    moving_fails c.args.numbers.now c.args.members.items c.loop-member.at left rest c.in-Refused.refused c.args.all.now.items c.loop-member.all.items c.refused_at.result c.loop-member.invariant.moved
    (steps ∙ ap (λ x. x ∷ rest) c.in-Refused.is) c.refused_at.ensures
