use Rattle.omf_records.proofs.PassingLaws.{passes-next}
use Rattle.omf_records.proofs.passing.Unread+Subrecord.pass_direct.Goals as goal

pub returns-in-Some-clause-passed : goal.returns-in-Some-clause-passed
returns-in-Some-clause-passed c is =
    passes-next c.args.counts.now c.args.len c.place.result c.in-Some.after c.args.self.now c.new.result
    c.place.ensures.items c.place.ensures.size c.new.ensures.items c.new.ensures.size c.in-Some.ensures
