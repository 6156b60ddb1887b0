use Rattle.omf_aliases.proofs.AliasLaws.{empty-table}
use Rattle.omf_aliases.proofs.substitutes.SubstituteTable.is_empty.Goals as goal

pub returns : goal.returns
returns c pairs h e name = empty-table c.args.self.now pairs c.is_empty.result c.is_empty.ensures h e name
