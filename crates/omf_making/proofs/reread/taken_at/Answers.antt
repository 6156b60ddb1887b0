use Rattle.std.proofs.Common.{refl, subst}
use Rattle.omf_making.specs.Taken.{IsJudgement}
use Rattle.omf_making.proofs.TakenLaws.{taken_there}
use Rattle.omf_making.proofs.reread.taken_at.Goals as goal

pub returns-in-Ok-Taken : goal.returns-in-Ok-Taken
returns-in-Ok-Taken c =
    let rest = c.split_at.result.1.now in
    let taken = subst (IsJudgement c.args.profile rest) c.in-Ok-Taken.field-0-is c.in-Ok-Taken.ensures in
    let there = taken_there c.args.profile c.args.bytes.now rest c.args.page.at c.in-Ok-Taken.taken c.split_at.ensures.back c.requires taken in
    (refl, there.0, there.1, there.2)
