use Rattle.omf_lowering.proofs.HolderLaws.{all_laid}
use Rattle.omf_lowering.proofs.holders.Holders.lay.Goals as goal

pub returns-clause-ok : goal.returns-clause-ok
returns-clause-ok c =
    all_laid c.args.self.now.numbers c.insert.new.self c.args.end c.number_at-after.result c.number_at-after.ensures c.in_ok-insert.ensures.updates
    c.insert-2.new.self c.clear.new.self.numbers c.args.first c.args.number c.requires c.in_ok-insert-2.ensures.updates c.clear.ensures.inside c.clear.ensures.others
