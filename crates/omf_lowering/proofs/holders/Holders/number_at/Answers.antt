use Rattle.omf_lowering.proofs.HolderLaws.{last_up_to, none_up_to}
use Rattle.omf_lowering.proofs.holders.Holders.number_at.Goals as goal

pub returns-in-Some : goal.returns-in-Some
returns-in-Some c = last_up_to c.args.self.now.numbers c.args.place c.range.result c.next_back.new.self (c.in-Some._key.now, c.in-Some.number.now) (c.range.ensures.in_range tt) c.in-Some.ensures.steps

pub returns-in-None : goal.returns-in-None
returns-in-None c = none_up_to c.args.self.now.numbers c.args.place c.range.result (c.range.ensures.in_range tt) c.in-None.ensures.steps.0
