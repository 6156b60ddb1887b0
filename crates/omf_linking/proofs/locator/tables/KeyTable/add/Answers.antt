use Rattle.std.proofs.Common.{◌∙◌, ap}
use Rattle.std.specs.Prelude.{option_map}
use Rattle.omf_linking.proofs.KeyTableLaws.{none-more}
use Rattle.omf_linking.proofs.locator.tables.KeyTable.add.Goals as goal

pub returns-in-None : goal.returns-in-None
returns-in-None c = λ texts numbers own table. none-more texts numbers c.args.number c.args.self.now.by_text (own ∙ ap (option_map (λ t. t.items)) c.in-None.is) table
