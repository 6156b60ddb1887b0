use Rattle.omf_lowering.proofs.HolderLaws.{forward, key_in, no_key_in}
use Rattle.omf_lowering.proofs.holders.Holders.key_between.Goals as goal

pub range-requires : goal.range-requires
range-requires c = forward c.args.first c.args.end c.requires

pub returns-in-Some-clause-some : goal.returns-in-Some-clause-some
returns-in-Some-clause-some c = key_in c.args.self.now.numbers c.args.first c.args.end c.range.result c.next.new.self (c.in-Some.key.now, c.in-Some._number.now) (c.range.ensures.in_range tt) c.in-Some.ensures.steps

pub returns-in-None-clause-none : goal.returns-in-None-clause-none
returns-in-None-clause-none c = no_key_in c.args.self.now.numbers c.args.first c.args.end c.range.result (c.range.ensures.in_range tt) c.in-None.ensures.steps.0
